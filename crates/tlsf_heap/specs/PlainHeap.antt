-- What the fields of the plain heap stand for, and what it keeps.
use Rattle.std.specs.Prelude.{◌≡◌, ◌≢◌, ◌≤◌, ◌+◌, ◌-◌, ℕ, Result, Err, IfOk, IfErr, Option, None, Some, List, [], ◌∷◌, map, drop, length, option_map, Vec, if◌then◌else◌, ◌==◌, nat_lt}
use Rattle.std.specs.List.{filter_map}
use Rattle.std.specs.declared.alloc.Global.{Global}
use Rattle.tlsf_heap.specs.declared.row.Row.{Row}
use Rattle.tlsf_heap.specs.declared.refusal.Refusal.{Refusal}
use Rattle.tlsf_heap.specs.declared.refusal.Refusal.TheVariants.{OutOfMemory}
use Rattle.tlsf_heap.specs.Pointer.{Pointer}
use Rattle.tlsf_heap.specs.Content.{Block, Pool, Content}
use Rattle.tlsf_heap.specs.Lists.{link}
use Rattle.tlsf_heap.specs.Free.{free_block}
use Rattle.tlsf_heap.specs.Pools.{most_records}
use Rattle.tlsf_heap.specs.Good.{IsGood}
use Rattle.tlsf_heap.specs.GoodSlots.{HasGoodSlots}
use Rattle.tlsf_heap.specs.Rows.{row_of}

-- the lists of places
abbrev pub lists_of : List (Vec ℕ Global) → List (List ℕ)
lists_of lists = map (λ places. places.items) lists

-- a free block of this size at the place, or none where the size is 0
abbrev pub gap_block : ℕ → ℕ → Option (Block ℕ)
gap_block place size = if size == 0 then None else Some (free_block place size)

-- a free block, where there is one, enters its list
abbrev pub link_block : Option (Block ℕ) → List (List ℕ) → List (List ℕ)
link_block None lists = lists
link_block (Some block) lists = link block.place block.size lists

-- the blocks that there are
abbrev pub blocks_among : List (Option (Block ℕ)) → List (Block ℕ)
blocks_among blocks = filter_map (λ block. block) blocks

-- what the plain heap keeps
pub record IsPlain (content : Content ℕ) : Type 0 where
  pub good : IsGood content
  pub slots : HasGoodSlots content
  pub records_few : content.records ≤ most_records

-- what a call over a plain content promises: another plain one with what is given, or the reason of the call where memory isn't lacking
pub record AnswersPlain {A : Type 0} (result : Result (Content ℕ × Pointer) Refusal) (gives : Pointer → Content ℕ → Content ℕ → Type 0) (call : ℕ → Content ℕ → Result A Refusal) (old : Content ℕ) : Type 0 where
  pub plain : IfOk result (λ given. IsPlain given.0)
  pub ok : IfOk result (λ given. gives given.1 old given.0)
  pub refused : IfErr result (λ refusal. refusal ≢ OutOfMemory → (slot : ℕ) → call slot old ≡ Err refusal)

-- the blocks of a pool from one on, which has this many blocks in front of it, in all pools
abbrev pub blocks_from : ℕ → List (Pool ℕ) → List (Block ℕ)
blocks_from number [] = []
blocks_from number (pool ∷ pools) = if nat_lt number (length pool.blocks) then drop number pool.blocks else blocks_from (number - length pool.blocks) pools

-- how many blocks stand in front of those of the first pool that begins at the base
abbrev pub blocks_in_front : ℕ → List (Pool ℕ) → Option ℕ
blocks_in_front base [] = None
blocks_in_front base (pool ∷ pools) = if pool.base == base then Some 0 else option_map (λ number. length pool.blocks + number) (blocks_in_front base pools)

-- the rows from a number on, none behind the last
abbrev pub rows_from_number : Option ℕ → List (Pool ℕ) → List Row
rows_from_number None pools = []
rows_from_number (Some number) pools = map row_of (blocks_from number pools)
