-- block_size: the size of a live block.
use Rattle.std.specs.Prelude.{ℕ, Bool, Result, Ok, Err, if◌then◌else◌}
use Rattle.tlsf_heap.specs.declared.refusal.Refusal.{Refusal}
use Rattle.tlsf_heap.specs.declared.refusal.Refusal.TheVariants.{BadPointer}
use Rattle.tlsf_heap.specs.Content.{Content, blocks_of, size_at}
use Rattle.tlsf_heap.specs.Free.{is_live}

-- block_size of the block at the place whose owner is meant: its bytes, or BadPointer
abbrev pub block_size : {A : Type 0} → (A → Bool) → ℕ → Content A → Result ℕ Refusal
block_size is_meant place content = if is_live is_meant place (blocks_of content.pools) then Ok (size_at place (blocks_of content.pools)) else Err BadPointer
