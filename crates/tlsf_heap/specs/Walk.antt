-- What a walk of a pool visits, and how often it touches.
use Rattle.std.specs.Prelude.{◌≡◌, ℕ, ◌+◌, List, length, Result, Ok, Err}
use Rattle.std.specs.List.{FoldsTo}
use Rattle.tlsf_heap.specs.declared.row.Row.{Row}
use Rattle.tlsf_heap.specs.declared.refusal.Refusal.{Refusal}
use Rattle.tlsf_heap.specs.Content.{Pool}
use Rattle.tlsf_heap.specs.Rows.{rows_from}

-- one visit of each row of the pool that begins at the base, in order, leads from one state to another
abbrev pub IsWalk : {F A : Type 0} → (F → Row → F → Type 0) → ℕ → List (Pool A) → F → F → Type 0
IsWalk step base pools visit last = (rows : List Row) × ((rows_from base pools ≡ Ok rows) × FoldsTo step visit rows last)

-- four touches for the pool, and one for each row
abbrev pub walk_touches : Result (List Row) Refusal → ℕ
walk_touches (Ok rows) = 4 + length rows
walk_touches (Err refusal) = 4
