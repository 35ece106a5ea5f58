-- What the largest request tells of the sizes of free blocks.
use Rattle.std.proofs.Common.{◌≡◌, ◌≢◌, ℕ, pred, ◌+◌, ◌-◌, ◌<◌, ◌≤◌, ◌∷◌, refl, sym, ap, ◌∙◌, arith, Option, Some, None, Err, ◌⊎◌, inl, inr}
use Rattle.std.specs.Prelude.{◌==◌, option_and_then}
use Rattle.std.proofs.lemmas.Bool.{cases_Bool, cases_eq, cases_lt}
use Rattle.std.proofs.lemmas.List.Elements.{All-from_recursion}
use Rattle.tlsf_class.specs.Classes.{unit, classes, greatest_size, low, class, need}
use Rattle.tlsf_class.specs.Rounding.{round, rounded}
use Rattle.tlsf_class.proofs.ClassLaws.{class-lt, low-class, le-class, class_from, le-low_need, low_before_need, need-None}
use Rattle.tlsf_class.proofs.LowestSizes.{low-0, low-unit, low-le}
use Rattle.tlsf_class.proofs.RoundingLaws.{IsRounded, round-Some, round_within}
use Rattle.tlsf_heap.specs.declared.refusal.Refusal.TheVariants.{ZeroSize, NoFit}
use Rattle.tlsf_heap.specs.Content.{Block, Content, blocks_of}
use Rattle.tlsf_heap.specs.Good.{IsGood}
use Rattle.tlsf_heap.specs.Implied.{NoneFits}
use Rattle.tlsf_heap.specs.Lists.{pick}
use Rattle.tlsf_heap.specs.Malloc.{malloc_picked, malloc_rounded, malloc}
use Rattle.tlsf_heap.specs.OwnClass.{picked_or_own, malloc_or_own_rounded, malloc_or_own}
use Rattle.tlsf_heap.specs.Readings.{IsLargestRequest}
use Rattle.tlsf_heap.proofs.Content.MallocCases.{malloc_cases}
use Rattle.tlsf_heap.proofs.Good.Implied.{no_fit}
use Rattle.tlsf_heap.proofs.Good.MallocIsGood.{IsWholeBlock, whole_in_pools, picked}
use Rattle.tlsf_c.specs.FreeFigures.{free_bytes, IsLargestWithFront, AreFreeWithin, IsBelowClass}
use Rattle.tlsf_c.specs.Fronts.{front}
use Rattle.tlsf_c.specs.PlacedHeaps.{malloc_with_front}
use Rattle.tlsf_c.proofs.FreeBytes.{free_bytes-append, free_bytes-free}
use Rattle.tlsf_c.proofs.PlacedLemmas.{with_front}

-- where malloc that looks at the own class too finds none, malloc finds none
module _ (slot : ℕ) (content : Content ℕ) where
  none_picked : (m : ℕ) (place : Option ℕ) → malloc_picked slot m (picked_or_own m content place) content ≡ Err NoFit → malloc_picked slot m place content ≡ Err NoFit
  none_picked m None e = refl
  none_picked m (Some place) e = e

  none_rounded : (m : Option ℕ) → malloc_or_own_rounded slot m content ≡ Err NoFit → malloc_rounded slot m content ≡ Err NoFit
  none_rounded None e = refl
  none_rounded (Some m) e = none_picked m (pick m content.lists) e

  none_found : (n : ℕ) → malloc_or_own slot n content ≡ Err NoFit → malloc slot n content ≡ Err NoFit
  none_found n e = elim (cases_Bool (n == 0)) [
    | inl nothing ↦ let refused : malloc_or_own slot n content ≡ Err ZeroSize = rw nothing refl in absurd (cc)
    | inr some ↦
        let asked : malloc slot n content ≡ malloc_rounded slot (round n) content = rw some refl in
        let own : malloc_or_own slot n content ≡ malloc_or_own_rounded slot (round n) content = rw some refl in
        asked ∙ none_rounded (round n) (sym own ∙ e)
  ]

-- a front less
pub largest_with_front : (bytes largest : ℕ) (content : Content ℕ) → bytes ≡ largest - front → IsLargestRequest largest content → IsLargestWithFront bytes content
largest_with_front bytes largest content is of = record {
  found = λ slot n most e. elim (cases_eq n 0) [
    | inl nothing ↦ let refused : malloc_with_front slot n content ≡ Err ZeroSize = ap (λ (k : ℕ). malloc_with_front slot k content) nothing in absurd (cc)
    | inr some ↦ of.found slot (n + front) (omega (arith, is, most, some)) (none_found slot content (n + front) (sym (with_front slot n content some) ∙ e))
  ];
  no_fit = λ slot n above. of.no_fit slot (n + front) (omega (arith, is, above));
}

-- where no byte is free the lists have no block
module _ (content : Content ℕ) (good : IsGood content) where
  picked_bytes : (m place : ℕ) → pick m content.lists ≡ Some place → 0 < free_bytes (blocks_of content.pools)
  picked_bytes m place found =
      let is = picked m place content good found in
      let block : Block ℕ = is.found.block in
      omega (arith, ap free_bytes is.found.whole, free_bytes-append is.found.front (block ∷ is.found.back), free_bytes-free block is.found.back is.free, is.whole.positive)

  some_free : malloc 0 1 content ≢ Err NoFit → 0 < free_bytes (blocks_of content.pools)
  some_free =
      malloc_cases 0 content 1 (λ r. r ≢ Err NoFit → 0 < free_bytes (blocks_of content.pools))
      (λ nothing found. absurd (omega (arith, nothing)))
      (λ some none found. absurd (found refl))
      (λ p full found. picked_bytes p.asked p.place p.found)
      (λ p found. picked_bytes p.asked p.place p.found)

  pub no_request : (largest : ℕ) → IsLargestRequest largest content → free_bytes (blocks_of content.pools) ≡ 0 → largest ≡ 0
  no_request largest of none = elim (cases_eq largest 0) [
    | inl zero ↦ zero
    | inr some ↦ absurd (omega (arith, none, some_free (of.found 0 1 (omega (arith, some)))))
  ]

low_1 : low 1 ≡ unit
unfolding low
low_1 = refl

low_last : low (pred classes) ≤ greatest_size
unfolding low
low_last = omega arith

class_0 : (n : ℕ) → n < unit → class n ≡ 0
class_0 n small = class_from n 0 (omega arith) (omega (arith, low-0)) (λ within. omega (arith, low_1, small))

-- a front less, and the front
pub class_with_front : (n : ℕ) → class (n - front + front) ≡ class n
class_with_front n = elim (cases_lt n front) [
  | inl small ↦ class_0 (n - front + front) (omega (arith, small)) ∙ sym (class_0 n (omega (arith, small)))
  | inr most ↦ ap class (omega (arith, most))
]

module _ (largest size : ℕ) where
  -- the size is a unit less than the class that the next request needs
  record IsNext : Type 0 where
    m : ℕ
    c : ℕ
    is_rounded : IsRounded (largest + 1) m
    rounds : round (largest + 1) ≡ Some m
    needed : need m ≡ Some c
    below : size + unit ≡ low c

  -- or it needs none, and the size is the greatest of all
  record IsLast : Type 0 where
    greatest : size ≡ greatest_size
    above : low (pred classes) ≤ largest

  by_need : (m : ℕ) (c : Option ℕ) → round (largest + 1) ≡ Some m → need m ≡ c → IsBelowClass size c → IsNext ⊎ IsLast
  by_need m None rounds needed is =
      let nearest = round-Some (largest + 1) m rounds in
      inr (record { greatest = is; above = omega (arith, need-None m needed, low-unit (pred classes), nearest.whole, nearest.near) })
  by_need m (Some c) rounds needed is = inl (record { m = m; c = c; is_rounded = round-Some (largest + 1) m rounds; rounds = rounds; needed = needed; below = is })

  by_round : (m : Option ℕ) → round (largest + 1) ≡ m → IsBelowClass size (option_and_then need m) → IsNext ⊎ IsLast
  by_round None rounds is = elim (cases_lt largest greatest_size) [
    | inl within ↦ let some : round (largest + 1) ≡ Some (rounded (largest + 1)) = round_within (largest + 1) (omega arith) (omega (arith, within)) in absurd (cc)
    | inr above ↦ inr (record { greatest = is; above = omega (arith, above, low_last) })
  ]
  by_round (Some m) rounds is = by_need m (need m) rounds refl is

  module _ (is : IsBelowClass size (option_and_then need (round (largest + 1)))) where
    cases : IsNext ⊎ IsLast
    cases = by_round (round (largest + 1)) refl is

    -- no free block has more
    pub free_within : (content : Content ℕ) → IsGood content → IsLargestRequest largest content → AreFreeWithin (size - front) (blocks_of content.pools)
    free_within content good of k d within free =
        let whole = All-from_recursion IsWholeBlock (blocks_of content.pools) (whole_in_pools 0 content.pools good.pools_good) k d within in
        let none : NoneFits (largest + 1) content = no_fit 0 (largest + 1) content good (of.no_fit 0 (largest + 1) (omega arith)) in
        elim cases [
          | inl next ↦ omega (arith, none next.m next.c next.rounds next.needed k d within free, whole.in_units, next.below, low-unit next.c)
          | inr last ↦ omega (arith, whole.at_most, last.greatest)
        ]

    -- both are of one class
    pub same_class : class largest ≡ class size
    same_class =
        let from_size : low (class size) ≤ largest → class size ≤ class largest = le-class largest (class size) (class-lt size) in
        let from_largest : low (class largest) ≤ size → class largest ≤ class size = le-class size (class largest) (class-lt largest) in
        elim cases [
          | inl next ↦
              let before : class size < next.c = elim (cases_lt (class size) next.c) [
                | inl less ↦ less
                | inr most ↦ absurd (omega (arith, low-le next.c (class size) most, low-class size, next.below))
              ] in
              let up = from_size (omega (arith, low_before_need next.m next.c (class size) next.needed before, low-unit (class size), next.is_rounded.whole, next.is_rounded.near)) in
              let down = from_largest (omega (arith, low-class largest, low-unit (class largest), low-unit next.c, next.below, le-low_need next.m next.c next.needed, next.is_rounded.least)) in
              omega (arith, up, down)
          | inr last ↦
              let up = from_size (omega (arith, low-le (class size) (pred classes) (omega (arith, class-lt size)), last.above)) in
              let down = from_largest (omega (arith, low-le (class largest) (pred classes) (omega (arith, class-lt largest)), low_last, last.greatest)) in
              omega (arith, up, down)
        ]

    pub none_within : largest ≡ 0 → size ≡ 0
    none_within zero = elim cases [
      | inl next ↦ elim (cases_lt 1 next.c) [
        | inl later ↦ absurd (omega (arith, low_before_need next.m next.c 1 next.needed later, low_1, zero, next.is_rounded.least, next.is_rounded.near, next.is_rounded.whole))
        | inr first ↦ omega (arith, low-le next.c 1 first, low_1, next.below)
      ]
      | inr last ↦ absurd (omega (arith, last.above, zero, low-le 1 (pred classes) (omega arith), low_1))
    ]
