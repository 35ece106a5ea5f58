-- Pools that have addresses.
use Rattle.std.specs.Prelude.{◌≡◌, ◌≢◌, ℕ, ◌+◌, ◌-◌, ◌%◌, ◌^◌, ◌<◌, ◌≤◌, List, All, Contains, length, slice_index_or}
use Rattle.tlsf_c.specs.Fronts.{front}
use Rattle.tlsf_c.specs.declared.placed_pool.PlacedPool.{PlacedPool}

-- places and addresses are in units, and none is above what 32 and 64 bits tell; a pool's front isn't at address 0
pub record IsPlaced (pool : PlacedPool) : Type 0 where
  pub places : pool.place + pool.reach ≤ 2 ^ 32
  pub addresses : pool.first + pool.reach ≤ 2 ^ 64
  pub some : 0 < pool.reach → 16 ≤ pool.first
  pub place_in_units : pool.place % 16 ≡ 0
  pub first_in_units : pool.first % 16 ≡ 0

-- a pool of this size, in bytes, can have its first block at this address
pub record CanBePlaced (first bytes : ℕ) : Type 0 where
  pub in_units : first % 16 ≡ 0
  pub some : 16 ≤ first
  pub ends : first + bytes ≤ 2 ^ 64
  pub long : 16 ≤ bytes

-- a block's place is in the pool
abbrev pub HasPlace : PlacedPool → ℕ → Type 0
HasPlace pool place = (pool.place ≤ place) × (place < pool.place + pool.reach)

-- a block's address is in the pool
abbrev pub HasAddress : PlacedPool → ℕ → Type 0
HasAddress pool address = (pool.first ≤ address) × (address < pool.first + pool.reach)

-- the block of the pool at this place has this address
pub record IsAt (pool : PlacedPool) (place address : ℕ) : Type 0 where
  pub has : HasPlace pool place
  pub address_is : address ≡ pool.first + (place - pool.place)

-- unless the entry holds no pool, its addresses are multiples of the alignment where its places are
abbrev pub IsAlike : ℕ → PlacedPool → Type 0
IsAlike align pool = 0 < pool.reach → pool.first % align ≡ pool.place % align

-- the bytes of the pool, with its first front, don't overlap as many behind an address, with the front before it
abbrev pub IsClearOf : (first reach : ℕ) → PlacedPool → Type 0
IsClearOf first reach pool = 0 < pool.reach → first < pool.first + pool.reach + front → pool.first < first + reach + front → ⊥

-- unless an entry holds no pool, their bytes don't overlap, and they don't begin at one place
pub record AreApart (pool other : PlacedPool) : Type 0 where
  pub addresses : 0 < pool.reach → IsClearOf pool.first pool.reach other
  pub places : 0 < pool.reach → 0 < other.reach → pool.place ≢ other.place

-- where the pool begins, and its bytes
abbrev pub placed_range : PlacedPool → ℕ × ℕ
placed_range pool = (pool.place, pool.reach + front)

-- the entry holds no pool, or one of these ranges of places
abbrev pub IsEntryOf : List (ℕ × ℕ) → PlacedPool → Type 0
IsEntryOf ranges pool = 0 < pool.reach → Contains ranges (placed_range pool)

-- an entry holds the range of places
abbrev pub IsEntered : List PlacedPool → ℕ × ℕ → Type 0
IsEntered pools range = (pool : PlacedPool) × Contains pools pool × (0 < pool.reach) × (placed_range pool ≡ range)

-- the pools that the entries hold are those of these ranges
pub record AreEntriesOf (ranges : List (ℕ × ℕ)) (pools : List PlacedPool) : Type 0 where
  pub entered : All (IsEntered pools) ranges
  pub of_ranges : All (IsEntryOf ranges) pools

-- the entry, which held none, holds this pool
pub record IsEnteredAt (first bytes place entry : ℕ) (old new : List PlacedPool) : Type 0 where
  pub within : entry < length old
  pub vacant : (d : PlacedPool) → (slice_index_or old entry d).reach ≡ 0
  pub first_is : (d : PlacedPool) → (slice_index_or new entry d).first ≡ first
  pub reach_is : (d : PlacedPool) → (slice_index_or new entry d).reach + front ≡ bytes
  pub place_is : (d : PlacedPool) → (slice_index_or new entry d).place ≡ place
  pub number_stays : (d : PlacedPool) → (slice_index_or new entry d).number ≡ (slice_index_or old entry d).number
  pub owner_stays : (d : PlacedPool) → (slice_index_or new entry d).owner ≡ (slice_index_or old entry d).owner
  pub others : (k : ℕ) (d : PlacedPool) → k ≢ entry → slice_index_or new k d ≡ slice_index_or old k d

-- the entry holds none
pub record IsVacatedAt (entry : ℕ) (old new : List PlacedPool) : Type 0 where
  pub within : entry < length old
  pub vacant : (d : PlacedPool) → (slice_index_or new entry d).reach ≡ 0
  pub number_stays : (d : PlacedPool) → (slice_index_or new entry d).number ≡ (slice_index_or old entry d).number
  pub owner_stays : (d : PlacedPool) → (slice_index_or new entry d).owner ≡ (slice_index_or old entry d).owner
  pub others : (k : ℕ) (d : PlacedPool) → k ≢ entry → slice_index_or new k d ≡ slice_index_or old k d
