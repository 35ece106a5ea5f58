-- Worked rows of blocks of one size: a run of 64 bytes on a pool of two such blocks, with two records; and what is refused with a
-- record less, with more blocks, and where the size is no class's lowest.
use Rattle.std.proofs.Common.{◌≡◌, ℕ, ◌*◌, ◌+◌, List, [], ◌∷◌, refl, Result, Some, Ok, Err, lit≤, lit<, inl, All}
use Rattle.tlsf_heap.specs.declared.request.Request.{Request}
use Rattle.tlsf_heap.specs.declared.request.Request.TheVariants.{Malloc, Free, Realloc}
use Rattle.tlsf_heap.specs.declared.answer.Answer.{Answer}
use Rattle.tlsf_heap.specs.declared.answer.Answer.TheVariants.{Done, Given, Moved}
use Rattle.tlsf_heap.specs.declared.refusal.Refusal.{Refusal}
use Rattle.tlsf_heap.specs.declared.refusal.Refusal.TheVariants.{NoFit, TableFull}
use Rattle.tlsf_class.specs.Classes.{class, need, low}
use Rattle.tlsf_class.specs.Rounding.{rounded}
use Rattle.tlsf_heap.specs.Pointer.{Pointer, free_ptr}
use Rattle.tlsf_heap.specs.Content.{Content}
use Rattle.tlsf_heap.specs.Malloc.{malloc}
use Rattle.tlsf_heap.specs.Pools.{created, add_pool, with_pool}
use Rattle.tlsf_heap.specs.Sizing.{class_size}
use Rattle.tlsf_heap.specs.Run.{Run}
use Rattle.tlsf_heap.specs.OneSize.{StaysOfSize}
use Rattle.tlsf_heap.specs.Within.{IsNotFull}
use Rattle.tlsf_heap.proofs.Good.OneSize.{run_of_size}

abbrev served : Content ℕ → Result (ℕ × Content ℕ) Refusal → Content ℕ
served content (Ok new) = new.1
served content (Err refusal) = content

abbrev left : Content ℕ → Result (Content ℕ) Refusal → Content ℕ
left content (Ok new) = new
left content (Err refusal) = content

abbrev at : ℕ → ℕ → Pointer
at place slot = record { place = place; slot = slot }

abbrev empty : Content ℕ
empty = with_pool 0 (2 * 64) (created 2)

abbrev one_live : Content ℕ
one_live = served empty (malloc 1 64 empty)

abbrev two_live : Content ℕ
two_live = served one_live (malloc 0 50 one_live)

abbrev first_freed : Content ℕ
first_freed = left two_live (free_ptr (at 0 1) two_live)

abbrev two_again : Content ℕ
two_again = served first_freed (malloc 1 64 first_freed)

abbrev asked : List Request
asked = Malloc 64 ∷ Malloc 50 ∷ Free (at 0 1) ∷ Realloc (Some (at 64 0)) 60 ∷ Malloc 64 ∷ []

abbrev answered : List Answer
answered = Given (at 0 1) ∷ Given (at 64 0) ∷ Done ∷ Moved (Some (at 64 0)) ∷ Given (at 0 1) ∷ []

-- the pool is added, and the size is a class's lowest
pool_added : add_pool 0 (2 * 64) (created 2) ≡ Ok empty
unfolding class need low rounded
pool_added = refl

size_is_lowest : class_size 1 64 ≡ Some 64
unfolding class need low rounded
size_is_lowest = refl

-- the run
run_of_one_size : Run ⊥ asked answered empty two_again 5 5
unfolding class need low rounded
run_of_one_size = (
  one_live,
  5,
  record { ok = refl; slot_below = lit< tt; slot_new = refl },
  lit≤ tt,
  lit≤ tt,
  (
    two_live,
    5,
    record { ok = refl; slot_below = lit< tt; slot_new = refl },
    lit≤ tt,
    lit≤ tt,
    (
      first_freed,
      5,
      refl,
      lit≤ tt,
      lit≤ tt,
      (
        first_freed,
        5,
        record { ok = refl; slot_below = lit< tt; slot_new = (λ other. absurd (other refl)) },
        lit≤ tt,
        lit≤ tt,
        (
          two_again,
          5,
          record { ok = refl; slot_below = lit< tt; slot_new = refl },
          lit≤ tt,
          lit≤ tt,
          (refl, refl),
        ),
      ),
    ),
  ),
)

-- it holds at most two blocks, of 64 bytes each
stays_of_size : StaysOfSize 2 64 ⊥ asked answered empty two_again 5 5 run_of_one_size
unfolding class need low rounded run_of_one_size
stays_of_size = (
  λ some. record { few = lit< tt; rounds = refl },
  (
    λ some. record { few = lit< tt; rounds = refl },
    (
      tt,
      (λ live some. refl, (λ some. record { few = lit< tt; rounds = refl }, tt)),
    ),
  ),
)

-- so by the law none of its answers is a refusal for want of a block or of a record
none_refused : All IsNotFull answered
none_refused = run_of_size ⊥ 2 64 2 0 (2 * 64) asked answered empty two_again 5 5 run_of_one_size pool_added size_is_lowest (lit≤ tt) (inl (lit≤ tt)) stays_of_size

-- with a record less, the rest of the first block has none
record_less : malloc {A = ℕ} 0 64 (with_pool 0 (2 * 64) (created 1)) ≡ Err TableFull
unfolding class need low rounded
record_less = refl

-- nor have the last bytes of a pool, too few for a block, where there are as many records as blocks
abbrev uneven : Content ℕ
uneven = with_pool 0 (2 * 64 + 16) (created 2)

bytes_left : malloc {A = ℕ} 0 64 (served uneven (malloc 1 64 uneven)) ≡ Err TableFull
unfolding class need low rounded
bytes_left = refl

-- with more live blocks than were told there is no block
block_less : malloc 0 64 two_live ≡ Err NoFit
unfolding class need low rounded
block_less = refl

-- a size that is no class's lowest isn't found in a block of just that size
no_lowest : malloc {A = ℕ} 0 1040 (with_pool 0 (1 * 1040) (created 1)) ≡ Err NoFit
unfolding class need low rounded
no_lowest = refl
