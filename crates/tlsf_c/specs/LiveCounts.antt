-- What is live among rows of a heap.
use Rattle.std.specs.Prelude.{ℕ, ◌+◌, List, [], ◌∷◌, count_by, if◌then◌else◌}
use Rattle.tlsf_heap.specs.declared.row.Row.{Row}

-- how many rows are of live blocks
abbrev pub used_rows : List Row → ℕ
used_rows rows = count_by (λ row. row.used) rows

-- the bytes of these blocks, with their fronts
abbrev pub used_bytes : List Row → ℕ
used_bytes [] = 0
used_bytes (row ∷ rows) = (if row.used then row.size else 0) + used_bytes rows
