-- What calls give, and what refused ones promise.
use Rattle.std.specs.Prelude.{◌≡◌, ◌≢◌, ℕ, ◌<◌, Option, Some, IfSome, Result, Ok, Err, IfErr, OnErr}
use Rattle.tlsf_heap.specs.declared.refusal.Refusal.{Refusal}
use Rattle.tlsf_heap.specs.declared.refusal.Refusal.TheVariants.{OutOfMemory}
use Rattle.tlsf_heap.specs.Pointer.{Pointer, place_and_slot, slot_of}
use Rattle.tlsf_heap.specs.Content.{Content, blocks_of}
use Rattle.tlsf_heap.specs.GoodSlots.{slot_times}

-- the pointer of a new live block, known by its slot, as the call gives it: the slot was of no live block
pub record IsServed (call : ℕ → Content ℕ → Result (ℕ × Content ℕ) Refusal) (pointer : Pointer) (old new : Content ℕ) : Type 0 where
  pub ok : call pointer.slot old ≡ Ok (pointer.place, new)
  pub slot_below : pointer.slot < old.records
  pub slot_new : slot_times pointer.slot (blocks_of old.pools) ≡ 0

-- where the call leaves the block, none where it was freed: under the same pointer, or with a slot that was of no live block
pub record IsMoved (call : ℕ → Content ℕ → Result (Option (ℕ × ℕ) × Content ℕ) Refusal) (pointer given : Option Pointer) (old new : Content ℕ) : Type 0 where
  pub ok : call (slot_of given) old ≡ Ok (place_and_slot given, new)
  pub slot_below : IfSome given (λ p. p.slot < old.records)
  pub slot_new : IfSome given (λ p. pointer ≢ Some p → slot_times p.slot (blocks_of old.pools) ≡ 0)

-- where the call is refused it is for this reason, never for want of memory, and all is as it was
pub record Refuses {A : Type 0} (result : Result A Refusal) (reason : Refusal → Type 0) (is_unchanged : Type 0) : Type 0 where
  pub refused : IfErr result reason
  pub never_memory : result ≢ Err OutOfMemory
  pub unchanged : OnErr result is_unchanged

-- where the call is refused it is for this reason, or for want of memory, which may be lacking; and all is as it was
pub record RefusesOrLacks {A : Type 0} (result : Result A Refusal) (reason : Refusal → Type 0) (lacks is_unchanged : Type 0) : Type 0 where
  pub refused : IfErr result (λ refusal. refusal ≢ OutOfMemory → reason refusal)
  pub memory : IfErr result (λ refusal. refusal ≡ OutOfMemory → lacks)
  pub unchanged : OnErr result is_unchanged
