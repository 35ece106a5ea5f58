-- Where a heap with addresses lies in the memory that is handed in: its control part, then its table, and then its first pool.
use Rattle.std.specs.Prelude.{◌≡◌, ℕ, ◌+◌, ◌-◌, ◌%◌, ◌<◌, ◌≤◌, ◌⊎◌}
use Rattle.tlsf_heap.specs.Sizing.{table_bytes}
use Rattle.tlsf_c.specs.declared.heap_places.HeapPlaces.{HeapPlaces}

-- the bytes from an address to the next multiple of the unit
abbrev pub skipped : ℕ → ℕ
skipped address = (16 - address % 16) % 16

-- the bytes of a heap whose control part begins at an address: the part, and the table behind it at a multiple of the unit
abbrev pub taken : (own part records : ℕ) → ℕ
taken own part records = part + skipped (own + part) + table_bytes records

-- memory may begin here: at a multiple of 8, and not at 0
pub record MayBegin (memory : ℕ) : Type 0 where
  pub some : 0 < memory
  pub in_units : memory % 8 ≡ 0

-- the memory has these bytes up to the last address of all, and room for a heap
pub record HasHeapRoom (memory bytes part records last : ℕ) : Type 0 where
  pub begins : MayBegin memory
  pub room : taken memory part records ≤ bytes
  pub ends : memory + bytes ≤ last

-- where table and pool lie, and the bytes that are left for the pool
pub record ArePlacesOf (memory bytes part records : ℕ) (places : HeapPlaces) : Type 0 where
  pub table_in_units : places.table % 16 ≡ 0
  pub table_behind : memory + part ≤ places.table
  pub table_near : places.table < memory + part + 16
  pub pool_behind : places.pool ≡ places.table + table_bytes records
  pub bytes_are : places.pool + places.bytes ≡ memory + bytes

-- memory that is none of the heap's own
pub record IsApartFrom (own part records memory bytes last : ℕ) : Type 0 where
  pub begins : MayBegin memory
  pub ends : memory + bytes ≤ last
  pub apart : (memory + bytes ≤ own) ⊎ (own + taken own part records ≤ memory)
