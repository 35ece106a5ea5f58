-- Rounding, and the class needed, don't fall where sizes rise.
use Rattle.std.proofs.Common.{◌≡◌, ℕ, ◌+◌, ◌-◌, ◌<◌, ◌≤◌, Option, Some, None, refl, sym, ap, ◌∙◌, inl, inr, arith}
use Rattle.std.specs.Prelude.{nat_le, option_map, option_and_then}
use Rattle.std.proofs.lemmas.Bool.{cases_Bool, cases_lt, leb-true, leb-false}
use Rattle.tlsf_class.specs.Classes.{unit, classes, low, need}
use Rattle.tlsf_class.specs.Rounding.{round, rounded}
use Rattle.tlsf_class.proofs.LowestSizes.{low-le}
use Rattle.tlsf_class.proofs.RoundingLaws.{round-Some, round_within, rounded-le}
use Rattle.tlsf_class.proofs.ClassLaws.{need-lt, le-low_need, low_before_need, need-None}
use Rattle.tlsf_heap.specs.Memalign.{is_alignment, size_asked}
use Rattle.tlsf_heap.specs.Sizing.{class_size}
use Rattle.tlsf_heap.specs.Within.{AsksAtMost}
use Rattle.tlsf_heap.proofs.laws.smaller_asks_less.Goals as goal

record Parts (a n size : ℕ) : Type 0 where
  m : ℕ
  rounds : round n ≡ Some m
  c : ℕ
  needed : need (size_asked a m) ≡ Some c
  sized : low c ≡ size

parts_of : (a n size : ℕ) → class_size a n ≡ Some size → Parts a n size
parts_of a n size is = elim (cases_Bool (is_alignment a)) [
  | inl good ↦ (let unfolded : class_size a n ≡ option_and_then (λ m. option_map low (need (size_asked a m))) (round n) = rw good refl in by_round (round n) refl (sym unfolded ∙ is))
  | inr bad ↦ (let none : class_size a n ≡ None = rw bad refl in absurd (cc))
]
  where
    by_need : (m : ℕ) → round n ≡ Some m → (answer : Option ℕ) → need (size_asked a m) ≡ answer → option_map low (need (size_asked a m)) ≡ Some size → Parts a n size
    by_need m rounds None e there = let none : option_map low (need (size_asked a m)) ≡ None = ap (λ o. option_map low o) e in absurd (cc)
    by_need m rounds (Some c) e there =
        let some : option_map low (need (size_asked a m)) ≡ Some (low c) = ap (λ o. option_map low o) e in
        record { m = m; rounds = rounds; c = c; needed = e; sized = cc }

    by_round : (answer : Option ℕ) → round n ≡ answer → option_and_then (λ m. option_map low (need (size_asked a m))) (round n) ≡ Some size → Parts a n size
    by_round None e there = let none : option_and_then (λ m. option_map low (need (size_asked a m))) (round n) ≡ None = ap (λ o. option_and_then (λ m. option_map low (need (size_asked a m))) o) e in absurd (cc)
    by_round (Some m) e there =
        let some : option_and_then (λ m. option_map low (need (size_asked a m))) (round n) ≡ option_map low (need (size_asked a m)) = ap (λ o. option_and_then (λ m. option_map low (need (size_asked a m))) o) e in
        by_need m e (need (size_asked a m)) refl (sym some ∙ there)

asked_small : (a m : ℕ) → a ≤ unit → size_asked a m ≡ m
asked_small a m few = elim (cases_Bool (nat_le a unit)) [
  | inl small ↦ rw small refl
  | inr large ↦ absurd (omega (arith, few, leb-false a unit large))
]

asked_large : (a m : ℕ) → unit < a → size_asked a m ≡ (m + a) - unit
asked_large a m more = elim (cases_Bool (nat_le a unit)) [
  | inl small ↦ absurd (omega (arith, more, leb-true a unit small))
  | inr large ↦ rw large refl
]

asked_le : (a m most_align most : ℕ) → a ≤ most_align → m ≤ most → size_asked a m ≤ size_asked most_align most
asked_le a m most_align most less few = elim (cases_lt unit a) [
  | inl large ↦ omega (arith, less, few, large, asked_large a m large, asked_large most_align most (omega (arith, large, less)))
  | inr small ↦ elim (cases_lt unit most_align) [
    | inl large ↦ omega (arith, few, large, asked_small a m (omega (arith, small)), asked_large most_align most large)
    | inr both ↦ omega (arith, few, asked_small a m (omega (arith, small)), asked_small most_align most (omega (arith, both)))
  ]
]

pub returns : goal.returns
returns c = λ most_align most size align n is good less some few. (
    let parts = parts_of most_align most size is in
    let most_rounded = round-Some most parts.m parts.rounds in
    let rounds : round n ≡ Some (rounded n) = round_within n (omega (arith, some)) (omega (arith, few, most_rounded.most)) in
    let m_le : rounded n ≤ parts.m = rounded-le n parts.m most_rounded.whole (omega (arith, few, most_rounded.least)) in
    let asked : size_asked align (rounded n) ≤ size_asked most_align parts.m = asked_le align (rounded n) most_align parts.m less m_le in
    of align n size parts.c (rounded n) rounds (need (size_asked align (rounded n))) refl (omega (arith, asked, le-low_need (size_asked most_align parts.m) parts.c parts.needed)) (need-lt (size_asked most_align parts.m) parts.c parts.needed) parts.sized)
  where
    of : (align n size most_class m : ℕ) → round n ≡ Some m → (answer : Option ℕ) → need (size_asked align m) ≡ answer → size_asked align m ≤ low most_class → most_class < classes → low most_class ≡ size → AsksAtMost size (size_asked align) n
    of align n size most_class m rounds None e small below is = absurd (omega (arith, need-None (size_asked align m) e, small, low-le most_class (classes - 1) (omega (arith, below))))
    of align n size most_class m rounds (Some k) e small below is = elim (cases_lt most_class k) [
      | inl less ↦ absurd (omega (arith, small, low_before_need (size_asked align m) k most_class e less))
      | inr more ↦ record { m = m; rounds = rounds; c = k; needed = e; sized = omega (arith, is, low-le k most_class (omega (arith, more))) }
    ]
