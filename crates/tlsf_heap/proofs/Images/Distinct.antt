-- Slots that are linked back stand once. The links back alone give the first slot in front of a slot, and how far
-- back it is.
use Rattle.std.proofs.Common.{◌≡◌, ℕ, zero, suc, ◌≤◌, Bool, true, false, eqb, List, [], ◌∷◌, refl, sym, ap, ◌∙◌, subst, arith, Option, Some, None, inl, inr}
use Rattle.std.specs.Option.{option_eq}
use Rattle.std.specs.Prelude.{nat_eq}
use Rattle.std.proofs.lemmas.Bool.{cases_Bool, cases_lt, and_parts, eqb-true}
use Rattle.tlsf_heap.specs.Images.Links.{are_linked_back}
use Rattle.tlsf_heap.proofs.Images.Counting.{one_if, times-cons}
use Rattle.tlsf_heap.specs.Good.{times}

pub same_link : (one other : Option ℕ) → option_eq nat_eq one other ≡ true → one ≡ other
same_link None None e = refl
same_link None (Some b) e = absurd (cc)
same_link (Some a) None e = absurd (cc)
same_link (Some a) (Some b) e = ap (λ n. Some n) (eqb-true a b e)

module _ (back : ℕ → Option ℕ) where
  -- that many links back from a slot stands the first one, which is linked to none
  abbrev pub IsBehind : ℕ → ℕ → ℕ → Type 0
  IsBehind first zero slot = (slot ≡ first) × (back slot ≡ None)
  IsBehind first (suc n) slot = (before : ℕ) × (back slot ≡ Some before) × IsBehind first n before

  -- the first one and the way to it are told by the slot
  pub one_way : (first other n m slot : ℕ) → IsBehind first n slot → IsBehind other m slot → (first ≡ other) × (n ≡ m)
  one_way first other zero zero slot h k = (sym h.0 ∙ k.0, refl)
  one_way first other zero (suc m) slot h k = absurd (let e : None ≡ Some k.0 = sym h.1 ∙ k.1 in cc)
  one_way first other (suc n) zero slot h k = absurd (let e : None ≡ Some h.0 = sym k.1 ∙ h.1 in cc)
  one_way first other (suc n) (suc m) slot h k =
      let e : Some k.0 ≡ Some h.0 = sym k.1 ∙ h.1 in
      let same : k.0 ≡ h.0 = cc in
      let P : ℕ → Type 0 = λ before. IsBehind other m before in
      let rest = one_way first other n m h.0 h.2 (subst P same k.2) in
      (rest.0, ap suc rest.1)

  linked_rest : (before : Option ℕ) (slot : ℕ) (slots : List ℕ) → are_linked_back back before (slot ∷ slots) ≡ true → are_linked_back back (Some slot) slots ≡ true
  linked_rest before slot slots linked = (and_parts (option_eq nat_eq (back slot) before) (are_linked_back back (Some slot) slots) linked).1

  before_is : (before slot : ℕ) (slots : List ℕ) → are_linked_back back (Some before) (slot ∷ slots) ≡ true → back slot ≡ Some before
  before_is before slot slots linked = same_link (back slot) (Some before) (and_parts _ _ linked).0

  -- slots that are linked back to one that is so far from the first are at least as far
  pub stands_behind : (first n from : ℕ) → IsBehind first n from → (slots : List ℕ) → are_linked_back back (Some from) slots ≡ true → (slot : ℕ) → 1 ≤ times slot (from ∷ slots) → (m : ℕ) × (n ≤ m) × IsBehind first m slot
  stands_behind first n from here [] linked slot some = elim (cases_Bool (eqb from slot)) [
    | inl same ↦ let P : ℕ → Type 0 = λ s. IsBehind first n s in (n, let e : n ≤ n = omega arith in e, subst P (eqb-true from slot same) here)
    | inr apart ↦ absurd (omega (arith, some, times-cons slot from [], ap one_if apart))
  ]
  stands_behind first n from here (next ∷ slots) linked slot some = elim (cases_Bool (eqb from slot)) [
    | inl same ↦ let P : ℕ → Type 0 = λ s. IsBehind first n s in (n, let e : n ≤ n = omega arith in e, subst P (eqb-true from slot same) here)
    | inr apart ↦
        let rest = stands_behind first (suc n) next (from, before_is from next slots linked, here) slots (linked_rest (Some from) next slots linked) slot (omega (arith, some, times-cons slot from (next ∷ slots), ap one_if apart)) in
        (rest.0, let e : n ≤ rest.0 = omega (arith, rest.1) in e, rest.2)
  ]

  once_behind : (first n from : ℕ) → IsBehind first n from → (slots : List ℕ) → are_linked_back back (Some from) slots ≡ true → (slot : ℕ) → times slot (from ∷ slots) ≤ 1
  once_behind first n from here [] linked slot = omega (arith, times-cons slot from [], most (eqb from slot))
    where
      most : (b : Bool) → one_if b ≤ 1
      most true = omega arith
      most false = omega arith
  once_behind first n from here (next ∷ slots) linked slot =
      let next_here : IsBehind first (suc n) next = (from, before_is from next slots linked, here) in
      let rest = once_behind first (suc n) next next_here slots (linked_rest (Some from) next slots linked) slot in
      elim (cases_Bool (eqb from slot)) [
        | inr apart ↦ omega (arith, rest, times-cons slot from (next ∷ slots), ap one_if apart)
        | inl same ↦ elim (cases_lt 0 (times slot (next ∷ slots))) [
          | inr none ↦ omega (arith, none, times-cons slot from (next ∷ slots), ap one_if same)
          | inl some ↦
              let P : ℕ → Type 0 = λ s. IsBehind first n s in
              let far = stands_behind first (suc n) next next_here slots (linked_rest (Some from) next slots linked) slot (omega (arith, some)) in
              absurd (omega (arith, far.1, (one_way first first n far.0 slot (subst P (eqb-true from slot same) here) far.2).1))
        ]
      ]

  -- slots that are linked back, the first to none, stand once
  pub stands_once : (slots : List ℕ) → are_linked_back back None slots ≡ true → (slot : ℕ) → times slot slots ≤ 1
  stands_once [] linked slot = omega arith
  stands_once (first ∷ slots) linked slot = once_behind first 0 first (refl, same_link (back first) None (and_parts _ _ linked).0) slots (linked_rest None first slots linked) slot
