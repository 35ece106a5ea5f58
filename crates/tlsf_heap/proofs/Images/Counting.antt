-- How many items of a list pass a test, item by item; and sums over all numbers below one, as over all slots.
use Rattle.std.proofs.Common.{◌≡◌, ℕ, zero, suc, ◌+◌, ◌<◌, ◌≤◌, Bool, true, cond, ◌||◌, eqb, List, [], ◌∷◌, ◌++◌, length, refl, sym, ap, ◌∙◌, arith, count_by, inl, inr}
use Rattle.std.specs.Prelude.{slice_index_or, sum_by}
use Rattle.std.specs.List.{list_any}
use Rattle.std.proofs.lemmas.Bool.{cases_Bool, cases_eq, cases_lt, eq-eqb, ne_eqb, false≢true}
use Rattle.std.proofs.lemmas.List.Sums.{sum_by-cons, sum_by-append}
use Rattle.tlsf_heap.specs.Good.{times}

-- 1 where it is true
abbrev pub one_if : Bool → ℕ
one_if b = cond b 1 0

module _ {X : Type 0} where
  pub count-cons : (p : X → Bool) (x : X) (xs : List X) → count_by p (x ∷ xs) ≡ one_if (p x) + count_by p xs
  count-cons p x xs = sum_by-cons (λ y. cond (p y) 1 0) x xs

  pub count-append : (p : X → Bool) (xs ys : List X) → count_by p (xs ++ ys) ≡ count_by p xs + count_by p ys
  count-append p xs ys = sum_by-append (λ y. cond (p y) 1 0) xs ys

pub times-cons : (slot other : ℕ) (slots : List ℕ) → times slot (other ∷ slots) ≡ one_if (eqb other slot) + times slot slots
times-cons slot other slots = count-cons (λ o. eqb o slot) other slots

pub times-append : (slot : ℕ) (xs ys : List ℕ) → times slot (xs ++ ys) ≡ times slot xs + times slot ys
times-append slot xs ys = count-append (λ other. eqb other slot) xs ys

-- whether any passes, and how many do
pub any_counts : {X : Type 0} (test : X → Bool) (xs : List X) → list_any test xs ≡ true → 1 ≤ count_by test xs
any_counts test [] any = absurd (false≢true any)
any_counts test (x ∷ xs) any = elim (cases_Bool (test x)) [
  | inl passes ↦ omega (arith, count-cons test x xs, ap one_if passes)
  | inr fails ↦ omega (arith, count-cons test x xs, any_counts test xs (sym (ap (λ b. b || list_any test xs) fails) ∙ any))
]

pub counts_any : {X : Type 0} (test : X → Bool) (xs : List X) → 1 ≤ count_by test xs → list_any test xs ≡ true
counts_any test [] some = absurd (omega (arith, some))
counts_any test (x ∷ xs) some = elim (cases_Bool (test x)) [
  | inl passes ↦ ap (λ b. b || list_any test xs) passes
  | inr fails ↦ ap (λ b. b || list_any test xs) fails ∙ counts_any test xs (omega (arith, some, count-cons test x xs, ap one_if fails))
]

-- the sum over all numbers below one
abbrev pub sum_below : (ℕ → ℕ) → ℕ → ℕ
sum_below f zero = 0
sum_below f (suc n) = f n + sum_below f n

pub sum_below-same : (f g : ℕ → ℕ) (n : ℕ) → ((s : ℕ) → s < n → f s ≡ g s) → sum_below f n ≡ sum_below g n
sum_below-same f g zero same = refl
sum_below-same f g (suc n) same = omega (arith, same n (omega arith), sum_below-same f g n (λ s h. same s (omega (arith, h))))

pub sum_below-add : (f g : ℕ → ℕ) (n : ℕ) → sum_below (λ s. f s + g s) n ≡ sum_below f n + sum_below g n
sum_below-add f g zero = refl
sum_below-add f g (suc n) = omega (arith, sum_below-add f g n)

pub sum_below-one : (n : ℕ) → sum_below (λ s. 1) n ≡ n
sum_below-one zero = refl
sum_below-one (suc n) = omega (arith, sum_below-one n)

sum_below-first : (f : ℕ → ℕ) (n : ℕ) → sum_below f (suc n) ≡ f 0 + sum_below (λ s. f (suc s)) n
sum_below-first f zero = refl
sum_below-first f (suc n) = omega (arith, sum_below-first f n)

sum_below-le : (f g : ℕ → ℕ) (n : ℕ) → ((s : ℕ) → s < n → f s ≤ g s) → sum_below f n ≤ sum_below g n
sum_below-le f g zero le = omega arith
sum_below-le f g (suc n) le = omega (arith, le n (omega arith), sum_below-le f g n (λ s h. le s (omega (arith, h))))

-- where the terms of one sum are at most those of another and the sums are equal, the terms are
pub sum_below-apart : (f g : ℕ → ℕ) (n : ℕ) → ((s : ℕ) → s < n → f s ≤ g s) → sum_below f n ≡ sum_below g n → (s : ℕ) → s < n → f s ≡ g s
sum_below-apart f g zero le same s below = absurd (omega (arith, below))
sum_below-apart f g (suc n) le same s below =
    let here = le n (omega arith) in
    let le_below : (k : ℕ) → k < n → f k ≤ g k = λ k h. le k (omega (arith, h)) in
    let rest = sum_below-le f g n le_below in
    elim (cases_eq s n) [
      | inl is ↦ let last : f n ≡ g n = omega (arith, here, rest, same) in ap f is ∙ last ∙ sym (ap g is)
      | inr apart ↦ sum_below-apart f g n le_below (omega (arith, here, rest, same)) s (omega (arith, below, apart))
    ]

nothing : (n : ℕ) → sum_below (λ s. 0) n ≡ 0
nothing zero = refl
nothing (suc n) = omega (arith, nothing n)

-- one number below, counted at its place
sum_below-here : (k n : ℕ) → k < n → sum_below (λ s. one_if (eqb k s)) n ≡ 1
sum_below-here k zero below = absurd (omega (arith, below))
sum_below-here k (suc n) below = elim (cases_eq k n) [
  | inl same ↦ omega (arith, ap one_if (eq-eqb k n same), sum_below-same (λ s. one_if (eqb k s)) (λ s. 0) n (λ s h. ap one_if (ne_eqb k s (λ e. omega (arith, e, same, h)))), nothing n)
  | inr apart ↦ omega (arith, ap one_if (ne_eqb k n apart), sum_below-here k n (omega (arith, below, apart)))
]

-- items counted at their numbers, all below n
pub items_sum : {X : Type 0} (number : X → ℕ) (n : ℕ) (xs : List X) → ((q : ℕ) → n ≤ q → count_by (λ x. eqb (number x) q) xs ≡ 0) → sum_below (λ s. count_by (λ x. eqb (number x) s) xs) n ≡ length xs
items_sum {X} number n [] none = nothing n
items_sum {X} number n (x ∷ xs) none =
    let counts : (s : ℕ) → count_by (λ y. eqb (number y) s) (x ∷ xs) ≡ one_if (eqb (number x) s) + count_by (λ y. eqb (number y) s) xs = λ s. count-cons (λ y. eqb (number y) s) x xs in
    let below : number x < n = (elim (cases_lt (number x) n) [
      | inl within ↦ within
      | inr past ↦ absurd (omega (arith, none (number x) past, counts (number x), ap one_if (eq-eqb (number x) (number x) refl)))
    ]) in
    omega (
      arith,
      sum_below-same (λ s. count_by (λ y. eqb (number y) s) (x ∷ xs)) (λ s. one_if (eqb (number x) s) + count_by (λ y. eqb (number y) s) xs) n (λ s h. counts s),
      sum_below-add (λ s. one_if (eqb (number x) s)) (λ s. count_by (λ y. eqb (number y) s) xs) n,
      sum_below-here (number x) n below,
      items_sum number n xs (λ q h. omega (arith, none q h, counts q)),
    )

-- the sum over a list's elements is that over their places
pub places_sum : {X : Type 0} (f : X → ℕ) (xs : List X) (d : X) → sum_below (λ s. f (slice_index_or xs s d)) (length xs) ≡ sum_by f xs
places_sum f [] d = refl
places_sum f (x ∷ xs) d = omega (arith, sum_below-first (λ s. f (slice_index_or (x ∷ xs) s d)) (length xs), places_sum f xs d, sum_by-cons f x xs)

-- slots, all below n, each of which stands as often in one list as in another
pub same_length : (xs ys : List ℕ) (n : ℕ) → ((slot : ℕ) → times slot xs ≡ times slot ys) → ((slot : ℕ) → n ≤ slot → times slot xs ≡ 0) → length xs ≡ length ys
same_length xs ys n same none =
    sym (items_sum (λ (slot : ℕ). slot) n xs none)
    ∙ sum_below-same (λ slot. times slot xs) (λ slot. times slot ys) n (λ slot below. same slot)
    ∙ items_sum (λ (slot : ℕ). slot) n ys (λ slot past. omega (arith, same slot, none slot past))
