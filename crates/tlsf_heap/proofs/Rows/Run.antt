-- A worked run of requests, by the definitions.
use Rattle.std.proofs.Common.{◌≡◌, ℕ, List, [], ◌∷◌, refl, true, Result, Ok, Err, lit≤, lit<}
use Rattle.tlsf_heap.specs.declared.request.Request.{Request}
use Rattle.tlsf_heap.specs.declared.request.Request.TheVariants.{AddPool, Malloc, Free}
use Rattle.tlsf_heap.specs.declared.answer.Answer.{Answer}
use Rattle.tlsf_heap.specs.declared.answer.Answer.TheVariants.{Done, Given, Refused}
use Rattle.tlsf_heap.specs.declared.refusal.Refusal.{Refusal}
use Rattle.tlsf_heap.specs.declared.refusal.Refusal.TheVariants.{ZeroSize, NoFit, BadPointer}
use Rattle.tlsf_class.specs.Classes.{class, need, low}
use Rattle.tlsf_class.specs.Rounding.{rounded}
use Rattle.tlsf_heap.specs.Pointer.{Pointer}
use Rattle.tlsf_heap.specs.Content.{Content}
use Rattle.tlsf_heap.specs.Malloc.{malloc}
use Rattle.tlsf_heap.specs.Pools.{created, with_pool}
use Rattle.tlsf_heap.specs.Rows.{rows_from}
use Rattle.tlsf_heap.specs.Run.{Run}

-- what malloc leaves
abbrev served : Content ℕ → Result (ℕ × Content ℕ) Refusal → Content ℕ
served content (Ok new) = new.1
served content (Err refusal) = content

abbrev empty : Content ℕ
empty = with_pool 0 1024 (created 4)

abbrev one_block : Content ℕ
one_block = served empty (malloc 2 100 empty)

abbrev two_blocks : Content ℕ
two_blocks = served one_block (malloc 0 1 one_block)

abbrev three_blocks : Content ℕ
three_blocks = served two_blocks (malloc 3 896 two_blocks)

abbrev at : ℕ → ℕ → Pointer
at place slot = record { place = place; slot = slot }

abbrev asked : List Request
asked = AddPool 0 1024 ∷ Malloc 100 ∷ Malloc 0 ∷ Malloc 1 ∷ Free (at 0 9) ∷ Malloc 2000 ∷ Malloc 896 ∷ []

abbrev answered : List Answer
answered = Done ∷ Given (at 0 2) ∷ Refused ZeroSize ∷ Given (at 112 0) ∷ Refused BadPointer ∷ Refused NoFit ∷ Given (at 128 3) ∷ []

-- run-of-requests, with slots that a heap may choose, and touches that it may need
run_of_requests : Run ⊥ asked answered (created 4) three_blocks 0 5
unfolding class need low rounded
run_of_requests = (
  empty,
  5,
  refl,
  lit≤ tt,
  lit≤ tt,
  (
    one_block,
    5,
    record { ok = refl; slot_below = lit< tt; slot_new = refl },
    lit≤ tt,
    lit≤ tt,
    (
      one_block,
      5,
      (refl, λ named slot. refl, λ is. cc),
      lit≤ tt,
      lit≤ tt,
      (
        two_blocks,
        5,
        record { ok = refl; slot_below = lit< tt; slot_new = refl },
        lit≤ tt,
        lit≤ tt,
        (
          two_blocks,
          5,
          (refl, λ named. refl, λ is. cc),
          lit≤ tt,
          lit≤ tt,
          (
            two_blocks,
            5,
            (refl, λ named slot. refl, λ is. cc),
            lit≤ tt,
            lit≤ tt,
            (
              three_blocks,
              5,
              record { ok = refl; slot_below = lit< tt; slot_new = refl },
              lit≤ tt,
              lit≤ tt,
              (refl, refl),
            ),
          ),
        ),
      ),
    ),
  ),
)

run_of_requests-rows : rows_from 0 three_blocks.pools ≡ Ok (record { place = 0; size = 112; used = true } ∷ record { place = 112; size = 16; used = true } ∷ record { place = 128; size = 896; used = true } ∷ [])
unfolding class need low rounded
run_of_requests-rows = refl
