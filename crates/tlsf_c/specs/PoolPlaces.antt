-- The places of a new pool, and what of the memory that is handed in it has.
use Rattle.std.specs.Prelude.{◌≡◌, ℕ, ◌+◌, ◌-◌, ◌*◌, ◌/◌, ◌%◌, ◌^◌, ◌<◌, ◌≤◌, ◌⊎◌, List, All, Ok}
use Rattle.tlsf_heap.specs.declared.refusal.Refusal.TheVariants.{BadPool, PoolsFull}
use Rattle.tlsf_heap.specs.Content.{Content}
use Rattle.tlsf_heap.specs.Pools.{add_pool}
use Rattle.tlsf_c.specs.Fronts.{front}
use Rattle.tlsf_c.specs.PlacedPools.{IsEnteredAt}
use Rattle.tlsf_c.specs.Status.{number, status_of}
use Rattle.tlsf_c.specs.declared.placed_pool.PlacedPool.{PlacedPool}

-- the first address of a block in memory that begins here: a multiple of 16, with its front in the memory
abbrev pub first_in : (memory : ℕ) → ℕ
first_in memory = (memory + front + 15) / 16 * 16

-- the bytes of a pool in this memory: whole units, from that front on
abbrev pub bytes_in : (memory bytes : ℕ) → ℕ
bytes_in memory bytes = (memory + bytes - (first_in memory - front)) / 16 * 16

-- the place and the address are equal modulo the alignment
abbrev pub IsLike : (align address place : ℕ) → Type 0
IsLike align address place = address % align ≡ place % align

-- unless the entry holds no pool, these places are none of its
abbrev pub IsBeside : (place bytes : ℕ) → PlacedPool → Type 0
IsBeside place bytes pool = 0 < pool.reach → (place + bytes ≤ pool.place) ⊎ (pool.place + pool.reach + front ≤ place)

-- the places from this one on, one for each of these bytes, are no pool's
pub record HasRoom (place bytes : ℕ) (pools : List PlacedPool) : Type 0 where
  pub ends : place + bytes ≤ 2 ^ 32
  pub beside : All (IsBeside place bytes) pools

-- the first place from another on that equals the address modulo the alignment
pub record IsNextLike (align address from place : ℕ) : Type 0 where
  pub behind : from ≤ place
  pub near : place < from + align
  pub like : IsLike align address place

-- there is no room where a pool could begin first behind the entry's
abbrev pub IsFullBehind : (align address bytes : ℕ) → List PlacedPool → PlacedPool → Type 0
IsFullBehind align address bytes pools pool = 0 < pool.reach → (place : ℕ) → IsNextLike align address (pool.place + pool.reach + front) place → HasRoom place bytes pools → ⊥

-- the heap got a pool of these bytes at some place that is like its address, and the entry holds it
pub record IsPoolAdded (align first bytes entry : ℕ) (old_pools new_pools : List PlacedPool) (old new : Content ℕ) : Type 0 where
  pub place : ℕ
  pub like : IsLike align first place
  pub added : add_pool place bytes old ≡ Ok new
  pub entered : IsEnteredAt first bytes place entry old_pools new_pools

-- no place that is like the address has room; or each entry holds a pool; or the heap refuses the pool where there is room
abbrev pub IsPoolRefused : (align first bytes status : ℕ) → List PlacedPool → Content ℕ → Type 0
IsPoolRefused align first bytes status pools content =
    ((status ≡ number BadPool) × ((place : ℕ) → IsLike align first place → HasRoom place bytes pools → ⊥))
    ⊎ (((status ≡ number PoolsFull) × All (λ pool. 0 < pool.reach) pools)
    ⊎ ((place : ℕ) × IsLike align first place × HasRoom place bytes pools × (status ≡ status_of (add_pool place bytes content))))
