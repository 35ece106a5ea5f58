-- How often a place stands in a class's list, after a block entered or left its list.
use Rattle.std.proofs.Common.{◌≡◌, ◌≢◌, ℕ, suc, ◌+◌, ◌-◌, ◌<◌, ◌≤◌, true, false, cond, eqb, ◌&&◌, List, [], ◌∷◌, length, refl, sym, ap, ◌∙◌, subst, arith, zero-add, count_by, set, Some, None, inl, inr}
use Rattle.std.specs.Prelude.{◌==◌}
use Rattle.std.proofs.lemmas.Bool.{cases_Bool, cases_eq, eq-eqb, ne_eqb, eqb-true, and_right}
use Rattle.std.proofs.lemmas.List.{get_or-set_same, get_or-set_other, length-set}
use Rattle.tlsf_class.specs.Classes.{classes, class}
use Rattle.tlsf_class.proofs.ClassLaws.{class-lt}
use Rattle.tlsf_heap.specs.Lists.{list_of, without, link, unlink, first_of_lists}
use Rattle.tlsf_heap.specs.Good.{times, is_listed}
pub use Rattle.tlsf_heap.proofs.Images.Counting.{times-cons}
use Rattle.tlsf_heap.specs.Malloc.{gap, split, link_gap}
use Rattle.tlsf_heap.specs.Content.{Block, is_free, is_at}
use Rattle.tlsf_heap.proofs.Counts.{count-cons, one_if}

-- 1 where a free block of this size at this place stands at p in the list of class q
abbrev pub listed_at : ℕ → ℕ → ℕ → ℕ → ℕ
listed_at q p place size = one_if ((place == p) && (class size == q))

listed_at-other : (q p place size : ℕ) → q ≢ class size → listed_at q p place size ≡ 0
listed_at-other q p place size h = ap one_if (and_right (place == p) _ (ne_eqb (class size) q (λ e. h (sym e))))

listed_at-here : (p place size : ℕ) → listed_at (class size) p place size ≡ one_if (place == p)
listed_at-here p place size = elim (place == p) as (λ b. one_if (b && (class size == class size)) ≡ one_if b) [
  | true ↦ ap one_if (eq-eqb (class size) (class size) refl)
  | false ↦ refl
]

pub times-without_same : (place : ℕ) (places : List ℕ) → times place (without place places) ≡ 0
times-without_same place [] = refl
times-without_same place (other ∷ places) = elim (cases_Bool (eqb other place)) [
  | inl same ↦ rw same (times-without_same place places)
  | inr apart ↦ rw apart (times-cons place other (without place places) ∙ ap (λ n. n + times place (without place places)) (ap one_if apart) ∙ omega (arith, times-without_same place places))
]

pub times-without_other : (p place : ℕ) (places : List ℕ) → place ≢ p → times p (without place places) ≡ times p places
times-without_other p place [] h = refl
times-without_other p place (other ∷ places) h = elim (cases_Bool (eqb other place)) [
  | inl same ↦
      let apart : eqb other p ≡ false = ne_eqb other p (λ e. h (sym (eqb-true other place same) ∙ e)) in
      rw same (times-without_other p place places h ∙ sym (times-cons p other places ∙ ap (λ n. n + times p places) (ap one_if apart) ∙ omega arith))
  | inr apart ↦ rw apart (times-cons p other (without place places) ∙ ap (λ n. one_if (eqb other p) + n) (times-without_other p place places h) ∙ sym (times-cons p other places))
]

-- how a list reads after a class's list was written
pub list_of-set_same : (number : ℕ) (places : List ℕ) (lists : List (List ℕ)) → number < length lists → list_of number (set lists number places) ≡ places
list_of-set_same number places lists h = get_or-set_same lists number places [] h

pub list_of-set_other : (number other : ℕ) (places : List ℕ) (lists : List (List ℕ)) → other ≢ number → list_of other (set lists number places) ≡ list_of other lists
list_of-set_other number other places lists h = get_or-set_other lists number other places [] h

module _ (lists : List (List ℕ)) (full : length lists ≡ classes) where
  in_lists : (size : ℕ) → class size < length lists
  in_lists size = omega (arith, class-lt size, full)

  pub times-link : (q p place size : ℕ) → times p (list_of q (link place size lists)) ≡ listed_at q p place size + times p (list_of q lists)
  times-link q p place size = elim (cases_eq q (class size)) [
    | inl same ↦
        let P : ℕ → Type 0 = λ n. times p (list_of n (link place size lists)) ≡ listed_at n p place size + times p (list_of n lists) in
        subst P (sym same) (ap (times p) (list_of-set_same (class size) _ lists (in_lists size)) ∙ times-cons p place (list_of (class size) lists) ∙ ap (λ n. n + times p (list_of (class size) lists)) (sym (listed_at-here p place size)))
    | inr apart ↦ ap (times p) (list_of-set_other (class size) q _ lists apart) ∙ omega (arith, listed_at-other q p place size apart)
  ]

  pub times-unlink : (q p place size : ℕ) → times place (list_of (class size) lists) ≡ 1 → times p (list_of q (unlink place size lists)) + listed_at q p place size ≡ times p (list_of q lists)
  times-unlink q p place size once = elim (cases_eq q (class size)) [
    | inl same ↦
        let P : ℕ → Type 0 = λ n. times p (list_of n (unlink place size lists)) + listed_at n p place size ≡ times p (list_of n lists) in
        let left : times p (list_of (class size) (unlink place size lists)) ≡ times p (without place (list_of (class size) lists)) = ap (times p) (list_of-set_same (class size) _ lists (in_lists size)) in
        subst P (sym same) (elim (cases_eq place p) [
          | inl at ↦
              let Q : ℕ → Type 0 = λ n. times n (list_of (class size) (unlink place size lists)) + listed_at (class size) n place size ≡ times n (list_of (class size) lists) in
              let one : listed_at (class size) place place size ≡ 1 = listed_at-here place place size ∙ ap one_if (eq-eqb place place refl) in
              let here : times place (list_of (class size) (unlink place size lists)) ≡ 0 = ap (times place) (list_of-set_same (class size) _ lists (in_lists size)) ∙ times-without_same place (list_of (class size) lists) in
              subst Q at (omega (arith, one, here, once))
          | inr apart ↦
              let none : listed_at (class size) p place size ≡ 0 = listed_at-here p place size ∙ ap one_if (ne_eqb place p apart) in
              omega (arith, left, none, times-without_other p place (list_of (class size) lists) apart)
        ])
    | inr apart ↦
        let same : times p (list_of q (unlink place size lists)) ≡ times p (list_of q lists) = ap (times p) (list_of-set_other (class size) q _ lists apart) in
        omega (arith, same, listed_at-other q p place size apart)
  ]

  pub times-link_gap : (q p place size : ℕ) → times p (list_of q (link_gap place size lists)) ≡ cond (size == 0) 0 (listed_at q p place size) + times p (list_of q lists)
  times-link_gap q p place size = elim (size == 0) as (λ b. times p (list_of q (cond b lists (link place size lists))) ≡ cond b 0 (listed_at q p place size) + times p (list_of q lists)) [
    | true ↦ omega arith
    | false ↦ times-link q p place size
  ]

  pub length-link : (place size : ℕ) → length (link place size lists) ≡ classes
  length-link place size = length-set lists (class size) _ ∙ full

  pub length-unlink : (place size : ℕ) → length (unlink place size lists) ≡ classes
  length-unlink place size = length-set lists (class size) _ ∙ full

  pub length-link_gap : (place size : ℕ) → length (link_gap place size lists) ≡ classes
  length-link_gap place size = elim (size == 0) as (λ b. length (cond b lists (link place size lists)) ≡ classes) [ true ↦ full | false ↦ length-link place size ]

-- a free block of a positive size is listed once, in its class's list
pub count_listed-gap : (A : Type 0) (q p place size : ℕ) → count_by (is_listed q p) (gap {A = A} place size) ≡ cond (size == 0) 0 (listed_at q p place size)
count_listed-gap A q p place size = elim (size == 0) as (λ b. count_by (is_listed {A = A} q p) (cond b [] (record { place = place; size = size; owner = None } ∷ [])) ≡ cond b 0 (listed_at q p place size)) [
  | true ↦ refl
  | false ↦ zero-add (listed_at q p place size)
]

pub count_listed-split : {A : Type 0} (owner : A) (q p place m size : ℕ) → count_by (is_listed q p) (split owner place m size) ≡ cond ((size - m) == 0) 0 (listed_at q p (place + m) (size - m))
count_listed-split {A = A} owner q p place m size =
    count-cons (is_listed q p) (record { place = place; size = m; owner = Some owner }) (gap (place + m) (size - m)) ∙ zero-add _ ∙ count_listed-gap A q p (place + m) (size - m)

-- a free block is listed as any of its place and size is
pub found_stands : {A : Type 0} (q p place size : ℕ) (block : Block A) → is_free block ≡ true → block.place ≡ place → block.size ≡ size → one_if (is_listed q p block) ≡ listed_at q p place size
found_stands q p place size block free here same =
    ap (λ b. one_if (b && (is_at p block && (class block.size == q)))) free
    ∙ ap (λ n. one_if ((n == p) && (class block.size == q))) here
    ∙ ap (λ n. one_if ((place == p) && (class n == q))) same

-- where a place is the first of the lists, it stands in one of them
pub first_stands : (lists : List (List ℕ)) (place : ℕ) → first_of_lists lists ≡ Some place → (number : ℕ) × (number < length lists) × (1 ≤ times place (list_of number lists))
first_stands [] place h = absurd (cc)
first_stands ([] ∷ lists) place h =
    let later = first_stands lists place h in
    (suc later.0, omega (arith, later.1), later.2)
first_stands ((first ∷ places) ∷ lists) place h =
    let same : first ≡ place = cc in
    (0, omega arith, omega (arith, times-cons place first places, ap one_if (eq-eqb first place same)))
