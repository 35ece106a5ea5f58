-- Memory for a pool of a heap that was loaded.
use Rattle.std.specs.Prelude.{◌≡◌, ◌≢◌, ℕ, ◌+◌, ◌<◌, ◌≤◌, List, length, slice_index_or}
use Rattle.tlsf_c.specs.Fronts.{front}
use Rattle.tlsf_c.specs.PoolPlaces.{first_in, bytes_in}
use Rattle.tlsf_c.specs.declared.placed_pool.PlacedPool.{PlacedPool}

-- the units of the pool have room in the memory, which ends at the last address or before
pub record FitsMemory (memory bytes last : ℕ) (pool : PlacedPool) : Type 0 where
  pub ends : memory + bytes ≤ last
  pub room : pool.reach + front ≤ bytes_in memory bytes

-- the entry's pool begins at the first address in the memory, where it has room, and else is as it was
pub record IsMovedTo (memory bytes last entry : ℕ) (old new : List PlacedPool) : Type 0 where
  pub within : entry < length old
  pub fits : (d : PlacedPool) → FitsMemory memory bytes last (slice_index_or old entry d)
  pub first_is : (d : PlacedPool) → (slice_index_or new entry d).first ≡ first_in memory
  pub reach_stays : (d : PlacedPool) → (slice_index_or new entry d).reach ≡ (slice_index_or old entry d).reach
  pub place_stays : (d : PlacedPool) → (slice_index_or new entry d).place ≡ (slice_index_or old entry d).place
  pub number_stays : (d : PlacedPool) → (slice_index_or new entry d).number ≡ (slice_index_or old entry d).number
  pub owner_stays : (d : PlacedPool) → (slice_index_or new entry d).owner ≡ (slice_index_or old entry d).owner
  pub others : (k : ℕ) (d : PlacedPool) → k ≢ entry → slice_index_or new k d ≡ slice_index_or old k d
