-- Where two calls are equal on a content, what one gives is what the other gives.
use Rattle.std.proofs.Common.{◌≡◌, ℕ, ◌∙◌, Option, Some, Result}
use Rattle.std.specs.Prelude.{IfOk}
use Rattle.std.proofs.lemmas.Result.{IfOk-weaker}
use Rattle.tlsf_heap.specs.declared.refusal.Refusal.{Refusal}
use Rattle.tlsf_heap.specs.Pointer.{Pointer, slot_of}
use Rattle.tlsf_heap.specs.Content.{Content}
use Rattle.tlsf_heap.specs.Served.{IsServed, IsMoved}

pub served_as : (call other : ℕ → Content ℕ → Result (ℕ × Content ℕ) Refusal) (old new : Content ℕ) → ((slot : ℕ) → call slot old ≡ other slot old) → (pointer : Pointer) → IsServed other pointer old new → IsServed call pointer old new
served_as call other old new same pointer is = record { ok = same pointer.slot ∙ is.ok; slot_below = is.slot_below; slot_new = is.slot_new }

pub moved_as : (call other : ℕ → Content ℕ → Result (Option (ℕ × ℕ) × Content ℕ) Refusal) (old new : Content ℕ) → ((slot : ℕ) → call slot old ≡ other slot old) → (pointer given : Option Pointer) → IsMoved other pointer given old new → IsMoved call pointer given old new
moved_as call other old new same pointer given is = record { ok = same (slot_of given) ∙ is.ok; slot_below = is.slot_below; slot_new = is.slot_new }

pub if_moved_as : (result : Result Pointer Refusal) (call other : ℕ → Content ℕ → Result (Option (ℕ × ℕ) × Content ℕ) Refusal) (old new : Content ℕ) → ((slot : ℕ) → call slot old ≡ other slot old) → (pointer : Option Pointer) → IfOk result (λ given. IsMoved other pointer (Some given) old new) → IfOk result (λ given. IsMoved call pointer (Some given) old new)
if_moved_as result call other old new same pointer all = IfOk-weaker result (λ given. IsMoved other pointer (Some given) old new) (λ given. IsMoved call pointer (Some given) old new) (λ given. moved_as call other old new same pointer (Some given)) all
