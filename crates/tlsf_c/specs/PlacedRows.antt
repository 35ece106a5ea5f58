-- Rows of a pool that has an address.
use Rattle.std.specs.Prelude.{◌≡◌, ℕ, ◌+◌, ◌-◌, ◌^◌, ◌≤◌, nat_le, min, List, filter, map, length, Ok}
use Rattle.tlsf_heap.specs.declared.row.Row.{Row as HeapRow}
use Rattle.tlsf_heap.specs.Content.{Pool}
use Rattle.tlsf_heap.specs.Rows.{rows_from}
use Rattle.tlsf_c.specs.Fronts.{front}
use Rattle.tlsf_c.specs.Room.{put_over}
use Rattle.tlsf_c.specs.declared.placed_pool.PlacedPool.{PlacedPool}
use Rattle.tlsf_c.specs.declared.placed_row.PlacedRow.{PlacedRow}

-- the block has a place of the pool, a front and a byte, and ends with the pool or before
pub record IsRowOf (pool : PlacedPool) (row : HeapRow) : Type 0 where
  pub begins : pool.place ≤ row.place
  pub ends : row.place + row.size ≤ pool.place + pool.reach + front
  pub long : 16 ≤ row.size

-- the row by its address, without its front
abbrev pub placed_row : PlacedPool → HeapRow → PlacedRow
placed_row pool row = record { address = pool.first + (row.place - pool.place); bytes = row.size - front; used = row.used }

-- those whose address is this one, or behind it
abbrev pub from_address : PlacedPool → ℕ → List HeapRow → List HeapRow
from_address pool from rows = filter (λ row. nat_le from (placed_row pool row).address) rows

-- the address behind a block, or the last one of all
abbrev pub behind : PlacedRow → ℕ
behind row = min (row.address + row.bytes + front) (2 ^ 64 - 1)

-- the pool's rows from an address on are put into the room, as many as there is room for; and how many those are
pub record WalksFrom (pool : PlacedPool) (from many : ℕ) (pools : List (Pool ℕ)) (old new : List PlacedRow) : Type 0 where
  pub given : List HeapRow
  pub of_pool : rows_from pool.place pools ≡ Ok given
  pub rows : new ≡ put_over (map (placed_row pool) (from_address pool from given)) old
  pub count : many ≡ min (length (from_address pool from given)) (length old)
