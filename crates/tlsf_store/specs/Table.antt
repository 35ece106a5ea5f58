-- The records of a table as it keeps them, unpacked: vacant records keep the chain in their links.
use Rattle.std.specs.Prelude.{◌≡◌, ℕ, ◌<◌, ◌≤◌, zero, suc, List, Option, Some, None, length, true, All, if◌then◌else◌}
use Rattle.tlsf_store.specs.declared.records.Record.{Record}
use Rattle.tlsf_store.specs.Records.{most_records, blank, record_at, is_vacant, vacant_count, IsKept}

-- a record as callers see it: a vacant one holds nothing
abbrev pub seen : Record → Record
seen r = if is_vacant r.state then blank else r

abbrev pub IsVacantAt : List Record → ℕ → Type 0
IsVacantAt records slot = (slot < length records) × (is_vacant (record_at records slot).state ≡ true)

abbrev pub next_at : List Record → ℕ → Option ℕ
next_at records slot = (record_at records slot).next

-- `count` slots, each of them vacant, from `first` on by `next`
abbrev pub IsChain : (ℕ → Type 0) → (ℕ → Option ℕ) → ℕ → Option ℕ → Type 0
IsChain vacant next zero first = first ≡ None
IsChain vacant next (suc count) first =
    (slot : ℕ) × (first ≡ Some slot) × vacant slot × IsChain vacant next count (next slot)

-- The records of a table, with the first vacant slot and how many records are vacant. Each vacant record is on the
-- chain once: a chain that ends has no slot twice
pub record IsTable (records : List Record) (first : Option ℕ) (vacant : ℕ) : Type 0 where
  pub few : length records ≤ most_records
  pub kept : All (IsKept (length records)) records
  pub chained : IsChain (IsVacantAt records) (next_at records) vacant first
  pub counted : vacant_count records ≡ vacant

-- the records of a table, and their memory. It has room for exactly as many records as the table was made with: a
-- table keeps no spare memory
pub record IsStored (capacity room : ℕ) (records : List Record) (first : Option ℕ) (vacant : ℕ) : Type 0 where
  pub exact : capacity ≡ room
  pub fits : length records ≤ room
  pub table : IsTable records first vacant
