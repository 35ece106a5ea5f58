-- A content whose live blocks are known by something else, or by nothing.
use Rattle.std.specs.Prelude.{ℕ, map, Option, option_map, Result}
use Rattle.std.specs.Result.{result_map_both}
use Rattle.tlsf_heap.specs.declared.refusal.Refusal.{Refusal}
use Rattle.tlsf_heap.specs.Content.{Block, Pool, Content}

module _ {A B : Type 0} (rename : A → B) where
  abbrev pub renamed_block : Block A → Block B
  renamed_block block = record { place = block.place; size = block.size; owner = option_map rename block.owner }

  abbrev pub renamed_pool : Pool A → Pool B
  renamed_pool pool = record { base = pool.base; bytes = pool.bytes; blocks = map renamed_block pool.blocks }

  abbrev pub renamed : Content A → Content B
  renamed content = record { records = content.records; pools = map renamed_pool content.pools; lists = content.lists }

  -- what a call leaves, or its refusal
  abbrev pub renamed_result : Result (Content A) Refusal → Result (Content B) Refusal
  renamed_result result = result_map_both renamed (λ refusal. refusal) result

  -- the place that a call gives and what it leaves, or its refusal
  abbrev pub renamed_given : Result (ℕ × Content A) Refusal → Result (ℕ × Content B) Refusal
  renamed_given result = result_map_both (λ given. (given.0, renamed given.1)) (λ refusal. refusal) result

  -- where the block is that realloc gives, if any, and what it leaves, or its refusal
  abbrev pub renamed_moved : Result (Option (ℕ × A) × Content A) Refusal → Result (Option (ℕ × B) × Content B) Refusal
  renamed_moved result = result_map_both (λ given. (option_map (λ pointer. (pointer.0, rename pointer.1)) given.0, renamed given.1)) (λ refusal. refusal) result

-- a content without what its live blocks are known by
abbrev pub bare : {A : Type 0} → Content A → Content (Unit {0})
bare content = renamed (λ owner. tt) content
