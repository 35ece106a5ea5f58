-- The rows of a pool: its blocks as a reading gives them.
use Rattle.std.specs.Prelude.{ℕ, not, List, [], ◌∷◌, map, Result, Ok, Err, if◌then◌else◌, ◌==◌}
use Rattle.tlsf_heap.specs.declared.row.Row.{Row}
use Rattle.tlsf_heap.specs.declared.refusal.Refusal.{Refusal}
use Rattle.tlsf_heap.specs.declared.refusal.Refusal.TheVariants.{NoPool}
use Rattle.tlsf_heap.specs.Content.{Block, Pool, is_free}

-- the row of a block
abbrev pub row_of : {A : Type 0} → Block A → Row
row_of block = record { place = block.place; size = block.size; used = not (is_free block) }

-- the rows of the first pool that begins at the base, or NoPool where none does
abbrev pub rows_from : {A : Type 0} → ℕ → List (Pool A) → Result (List Row) Refusal
rows_from base [] = Err NoPool
rows_from base (pool ∷ pools) = if pool.base == base then Ok (map row_of pool.blocks) else rows_from base pools
