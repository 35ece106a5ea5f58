-- Requests and their answers, one after the other.
use Rattle.std.specs.Prelude.{◌≡◌, ◌≢◌, ℕ, Bool, true, false, ◌+◌, ◌≤◌, List, [], ◌∷◌, Ok, Err}
use Rattle.tlsf_heap.specs.declared.request.Request.{Request}
use Rattle.tlsf_heap.specs.declared.request.Request.TheVariants.{AddPool, RemovePool, Malloc, Memalign, Free, Realloc, BlockSize}
use Rattle.tlsf_heap.specs.declared.answer.Answer.{Answer}
use Rattle.tlsf_heap.specs.declared.answer.Answer.TheVariants.{Done, Given, Moved, Size, Refused}
use Rattle.tlsf_heap.specs.declared.refusal.Refusal.{Refusal}
use Rattle.tlsf_heap.specs.declared.refusal.Refusal.TheVariants.{OutOfMemory}
use Rattle.tlsf_heap.specs.Pointer.{free_ptr, realloc_ptr, block_size_ptr}
use Rattle.tlsf_heap.specs.Content.{Content}
use Rattle.tlsf_heap.specs.Served.{IsServed, IsMoved}
use Rattle.tlsf_heap.specs.Malloc.{malloc}
use Rattle.tlsf_heap.specs.Memalign.{memalign}
use Rattle.tlsf_heap.specs.Pools.{add_pool, remove_pool}

-- the request is to be refused, whatever slot a block were given
abbrev pub IsRefused : Request → Refusal → Content ℕ → Type 0
IsRefused (AddPool base bytes) refusal content = add_pool base bytes content ≡ Err refusal
IsRefused (RemovePool base) refusal content = remove_pool base content ≡ Err refusal
IsRefused (Malloc n) refusal content = (slot : ℕ) → malloc slot n content ≡ Err refusal
IsRefused (Memalign align n) refusal content = (slot : ℕ) → memalign slot align n content ≡ Err refusal
IsRefused (Free pointer) refusal content = free_ptr pointer content ≡ Err refusal
IsRefused (Realloc pointer n) refusal content = (slot : ℕ) → realloc_ptr pointer n slot content ≡ Err refusal
IsRefused (BlockSize pointer) refusal content = block_size_ptr pointer content ≡ Err refusal

-- whether the request changes nothing, and so needs no memory
abbrev pub is_reading : Request → Bool
is_reading (BlockSize pointer) = true
is_reading request = false

-- one request and its answer: it is done, is given a block, is told where the block is now, or its size. A refusal changes
-- nothing. Each but OutOfMemory is the one that the request has on the content. OutOfMemory comes only where memory may be
-- lacking, and never for a reading
abbrev pub Step : (lacks : Type 0) → Request → Answer → Content ℕ → Content ℕ → Type 0
Step lacks request (Refused refusal) old new = (new ≡ old) × (refusal ≢ OutOfMemory → IsRefused request refusal old) × (refusal ≡ OutOfMemory → lacks × (is_reading request ≡ false))
Step lacks (AddPool base bytes) Done old new = add_pool base bytes old ≡ Ok new
Step lacks (RemovePool base) Done old new = remove_pool base old ≡ Ok new
Step lacks (Malloc n) (Given pointer) old new = IsServed (λ slot. malloc slot n) pointer old new
Step lacks (Memalign align n) (Given pointer) old new = IsServed (λ slot. memalign slot align n) pointer old new
Step lacks (Free pointer) Done old new = free_ptr pointer old ≡ Ok new
Step lacks (Realloc pointer n) (Moved given) old new = IsMoved (realloc_ptr pointer n) pointer given old new
Step lacks (BlockSize pointer) (Size bytes) old new = (block_size_ptr pointer old ≡ Ok bytes) × (new ≡ old)
Step lacks request answer old new = ⊥

-- how often the table is touched for a request, at most
abbrev pub most_touches : Request → ℕ
most_touches (AddPool base bytes) = 64
most_touches (RemovePool base) = 64
most_touches (Malloc n) = 96
most_touches (Memalign align n) = 160
most_touches (Free pointer) = 96
most_touches (Realloc pointer n) = 256
most_touches (BlockSize pointer) = 4

-- each request has its answer, on the content that the one before left. The count of touches never
-- falls, and rises by no more than the request may
abbrev pub Run : (lacks : Type 0) → List Request → List Answer → (old new : Content ℕ) → (before after : ℕ) → Type 0
Run lacks [] [] old new before after = (new ≡ old) × (after ≡ before)
Run lacks (request ∷ requests) (answer ∷ answers) old new before after =
    (mid : Content ℕ) × (count : ℕ) × Step lacks request answer old mid × (before ≤ count) × (count ≤ before + most_touches request)
    × Run lacks requests answers mid new count after
Run lacks requests answers old new before after = ⊥
