-- What a walk puts into a C program's rows.
use Rattle.std.specs.Prelude.{◌≡◌, ℕ, nat_le, List, filter, map, length}
use Rattle.tlsf_heap.specs.declared.row.Row.{Row as HeapRow}
use Rattle.tlsf_c.specs.declared.row.Row.{Row}
use Rattle.tlsf_c.specs.Room.{put_over}

-- the same row for C
abbrev pub row_for : HeapRow → Row
row_for row = record { place = row.place; size = row.size; used = row.used }

-- those that begin at the place, or behind it
abbrev pub from_place : ℕ → List HeapRow → List HeapRow
from_place from rows = filter (λ row. nat_le from row.place) rows

-- these rows are put into the room, as many as there is room for; and how many they are
pub record IsFilled (given : List HeapRow) (many : ℕ) (old new : List Row) : Type 0 where
  pub rows : new ≡ put_over (map row_for given) old
  pub count : many ≡ length given
