-- Readings of a heap: the rows from a block on, and the entry of the pool that begins at a place.
use Rattle.std.specs.Prelude.{◌≡◌, ◌≢◌, ℕ, ◌-◌, ◌<◌, ◌≤◌, ◌==◌, nat_lt, Bool, true, false, List, [], ◌∷◌, map, length, Option, Some, None, if◌then◌else◌, slice_index_or, ◌⊎◌, ⊤}
use Rattle.std.specs.List.{range_with_len}
use Rattle.tlsf_store.specs.declared.records.Record.{Record}
use Rattle.tlsf_store.specs.declared.pools.Pool.{Pool as StoredPool}
use Rattle.tlsf_store.specs.Records.{record_at, is_vacant}
use Rattle.tlsf_store.specs.Cells.{pool_at, most_pools}
use Rattle.tlsf_heap.specs.declared.cursor.Cursor.{Cursor}
use Rattle.tlsf_heap.specs.declared.row.Row.{Row}
use Rattle.tlsf_heap.specs.Inner.Following.{block_at, chain_from}
use Rattle.tlsf_heap.specs.Rows.{row_of}

-- the rows from the slot's block on in its pool, none where the slot has no block
abbrev pub rows_at : List Record → ℕ → List Row
rows_at records slot = if is_vacant (record_at records slot).state then [] else map (λ q. row_of (block_at records q)) (chain_from records (Some slot))

-- for each slot the rows from its block on
abbrev pub rows_by : List Record → List (List Row)
rows_by records = map (rows_at records) (range_with_len 0 (length records))

-- the rows from a cursor on, which has a slot or none
abbrev pub rows_left : List (List Row) → Option ℕ → List Row
rows_left rows None = []
rows_left rows (Some slot) = slice_index_or rows slot []

-- the cursor stands behind the last row, or at one
abbrev pub stands_at : List (List Row) → Option ℕ → Type 0
stands_at rows None = ⊤
stands_at rows (Some slot) = slice_index_or rows slot [] ≢ []

-- the rows from a cursor on
abbrev pub rows_behind : List (List Row) → Cursor → List Row
rows_behind rows cursor = rows_left rows cursor.next

abbrev pub is_at_row : List (List Row) → Cursor → Type 0
is_at_row rows cursor = stands_at rows cursor.next

-- the first block of the first pool that begins at the base
abbrev pub slot_for : ℕ → List StoredPool → Option ℕ
slot_for base [] = None
slot_for base (entry ∷ entries) = if entry.base == base then Some entry.first else slot_for base entries

-- whether a pool begins below the base
abbrev pub begins_below : ℕ → Option StoredPool → Bool
begins_below base None = false
begins_below base (Some pool) = nat_lt pool.base base

-- the first block of a pool that begins at the base
abbrev pub slot_if : ℕ → Option StoredPool → Option ℕ
slot_if base None = None
slot_if base (Some pool) = if pool.base == base then Some pool.first else None

-- where a pool begins below the base, those in front of it do
abbrev pub AreInOrder : ℕ → List (Option StoredPool) → Type 0
AreInOrder base pools = (j k : ℕ) → j ≤ k → begins_below base (pool_at pools k) ≡ true → begins_below base (pool_at pools j) ≡ true

-- the pools in front of the place begin below the base, and the last doesn't, or is the last of all
pub record IsNarrowed (base : ℕ) (pools : List (Option StoredPool)) (place last : ℕ) : Type 0 where
  pub below : (j : ℕ) → j < place → begins_below base (pool_at pools j) ≡ true
  pub above : (begins_below base (pool_at pools last) ≡ false) ⊎ (last ≡ most_pools - 1)
