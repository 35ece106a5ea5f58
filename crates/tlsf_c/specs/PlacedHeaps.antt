-- A heap whose pools have addresses: which block an address and the word in front of it mean, and what calls give.
use Rattle.std.specs.Prelude.{◌≡◌, ◌⊎◌, ℕ, ◌+◌, ◌==◌, ◌≤◌, List, Contains, Result, Some, Ok, Err, if◌then◌else◌}
use Rattle.tlsf_heap.specs.declared.refusal.Refusal.{Refusal}
use Rattle.tlsf_heap.specs.declared.refusal.Refusal.TheVariants.{ZeroSize, BadPointer}
use Rattle.tlsf_heap.specs.Content.{Content}
use Rattle.tlsf_heap.specs.Counted.{Counted, IsUnchanged}
use Rattle.tlsf_heap.specs.Memalign.{memalign}
use Rattle.tlsf_heap.specs.OwnClass.{malloc_or_own}
use Rattle.tlsf_heap.specs.Pointer.{Pointer, free_ptr, realloc_ptr, block_size_ptr}
use Rattle.tlsf_heap.specs.Served.{IsServed, IsMoved}
use Rattle.tlsf_c.specs.Fronts.{front, told_slot, told_size}
use Rattle.tlsf_c.specs.PlacedPools.{IsAt}
use Rattle.tlsf_c.specs.Status.{number}
use Rattle.tlsf_c.specs.declared.placed_pool.PlacedPool.{PlacedPool}

-- the block at this place with the slot that the word tells
abbrev pub told_block : (place address word : ℕ) → Pointer
told_block place address word = record { place = place; slot = told_slot word address }

-- a pool has the address. The block there is live, and has the slot and the size that the word tells
pub record IsLiveAt (address word : ℕ) (pools : List PlacedPool) (content : Content ℕ) : Type 0 where
  pub place : ℕ
  pub pool : PlacedPool
  pub of_pools : Contains pools pool
  pub at : IsAt pool place address
  pub live : block_size_ptr (told_block place address word) content ≡ Ok (told_size word address)

-- malloc of the heap for these bytes and the front in front of them, also from the class that they are in
abbrev pub malloc_with_front : (slot bytes : ℕ) → Content ℕ → Result (ℕ × Content ℕ) Refusal
malloc_with_front slot bytes content = if bytes == 0 then Err ZeroSize else malloc_or_own slot (bytes + front) content

-- memalign of the heap for these bytes and the front in front of them
abbrev pub memalign_with_front : (align slot bytes : ℕ) → Content ℕ → Result (ℕ × Content ℕ) Refusal
memalign_with_front align slot bytes content = memalign slot align (if bytes == 0 then 0 else bytes + front) content

-- the heap gave a block, and this is its address. The bytes end with its pool or before, and the front lies in the pool too
pub record IsGivenAt (call : ℕ → Content ℕ → Result (ℕ × Content ℕ) Refusal) (bytes address : ℕ) (pools : List PlacedPool) (old new : Content ℕ) : Type 0 where
  pub pointer : Pointer
  pub pool : PlacedPool
  pub served : IsServed call pointer old new
  pub of_pools : Contains pools pool
  pub at : IsAt pool pointer.place address
  pub ends : address + bytes ≤ pool.first + pool.reach

-- the heap refuses the call whatever slot it would give. The word is the number of the refusal, and all is as it was
pub record IsRefusedAt (call : ℕ → Content ℕ → Result (ℕ × Content ℕ) Refusal) (word : ℕ) (old new : Counted) : Type 0 where
  pub refusal : Refusal
  pub refused : (slot : ℕ) → call slot old.content ≡ Err refusal
  pub number_is : word ≡ number refusal
  pub unchanged : IsUnchanged old new

-- the block that the address and the word mean became free
pub record IsFreedAt (address word : ℕ) (pools : List PlacedPool) (old new : Content ℕ) : Type 0 where
  pub place : ℕ
  pub pool : PlacedPool
  pub of_pools : Contains pools pool
  pub at : IsAt pool place address
  pub freed : free_ptr (told_block place address word) old ≡ Ok new

-- The block that the address and the word mean has room for these bytes and the front in front of them, and this is its address
-- now. The bytes end with its pool or before, and the front lies in the pool too.
pub record IsResizedAt (address word bytes address_now : ℕ) (pools : List PlacedPool) (old new : Content ℕ) : Type 0 where
  pub was : IsLiveAt address word pools old
  pub pointer : Pointer
  pub pool : PlacedPool
  pub moved : IsMoved (realloc_ptr (Some (told_block was.place address word)) (bytes + front)) (Some (told_block was.place address word)) (Some pointer) old new
  pub of_pools : Contains pools pool
  pub at : IsAt pool pointer.place address_now
  pub ends : address_now + bytes ≤ pool.first + pool.reach

-- No such block is live; or the heap refuses it these bytes and the front, whatever slot a new block would have.
abbrev pub IsRefusedFor : (address word bytes : ℕ) → List PlacedPool → Content ℕ → Refusal → Type 0
IsRefusedFor address word bytes pools content refusal =
    ((IsLiveAt address word pools content → ⊥) × (refusal ≡ BadPointer))
    ⊎ ((live : IsLiveAt address word pools content) × ((slot : ℕ) → realloc_ptr (Some (told_block live.place address word)) (bytes + front) slot content ≡ Err refusal))

-- it is refused; the answer is the number of the refusal, and all is as it was
pub record IsNotResized (address word bytes answer : ℕ) (pools : List PlacedPool) (old new : Counted) : Type 0 where
  pub refusal : Refusal
  pub refused : IsRefusedFor address word bytes pools old.content refusal
  pub number_is : answer ≡ number refusal
  pub unchanged : IsUnchanged old new
