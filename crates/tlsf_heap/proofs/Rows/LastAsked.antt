-- Worked rows of what was last asked for at a place.
use Rattle.std.proofs.Common.{◌≡◌, ℕ, List, [], ◌∷◌, Some, None, refl}
use Rattle.tlsf_heap.specs.declared.request.Request.{Request}
use Rattle.tlsf_heap.specs.declared.request.Request.TheVariants.{Malloc, Memalign, Free, Realloc}
use Rattle.tlsf_heap.specs.declared.answer.Answer.{Answer}
use Rattle.tlsf_heap.specs.declared.answer.Answer.TheVariants.{Done, Given, Moved}
use Rattle.tlsf_heap.specs.Pointer.{Pointer}
use Rattle.tlsf_heap.specs.LastAsked.{last_asked}

abbrev at : ℕ → ℕ → Pointer
at place slot = record { place = place; slot = slot }

-- 5 bytes at 0, 7 at 16, which then get 40 in their place; the first is freed, and 64 are given there
abbrev requests : List Request
requests = Malloc 5 ∷ Malloc 7 ∷ Realloc (Some (at 16 1)) 40 ∷ Free (at 0 0) ∷ Memalign 16 64 ∷ []

abbrev answers : List Answer
answers = Given (at 0 0) ∷ Given (at 16 1) ∷ Moved (Some (at 16 1)) ∷ Done ∷ Given (at 0 2) ∷ []

last_asked-rows : (last_asked requests answers 16 ≡ Some 40) × (last_asked requests answers 0 ≡ Some 64) × (last_asked requests answers 32 ≡ None)
last_asked-rows = (refl, refl, refl)
