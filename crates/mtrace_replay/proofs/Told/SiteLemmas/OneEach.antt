-- Lists in which no origin has two: each has all that is at its origin, and in their order they rise strictly.
use Rattle.std.proofs.Common.{◌≡◌, ℕ, ◌+◌, ◌<◌, ◌≤◌, Bool, true, false, cond, List, [], ◌∷◌, get_or, refl, ◌∙◌, subst, arith, zero, suc}
use Rattle.std.specs.List.{AllByRecursion, sum_by, All, Any}
use Rattle.std.specs.List.Sorted.{IsSorted, IsStrictlySortedBy}
use Rattle.std.specs.Ordering.{is_eq, is_lt, ordering_reverse}
use Rattle.std.specs.Cmp.{IsTotalOrder, IsStrictWeakOrder}
use Rattle.std.specs.declared.cmp.Ordering.{Ordering}
use Rattle.std.specs.declared.cmp.Ordering.TheVariants.{Less, Equal, Greater}
use Rattle.std.proofs.lemmas.List.Sums.{sum_by-cons}
use Rattle.std.proofs.lemmas.List.Sorted.{ranks_by, sorted_far}
use Rattle.std.proofs.lemmas.List.Elements.{All-from_recursion, recursion_from_All}
use Rattle.mtrace_replay.specs.Sites.{Origin, origin_cmp, weigh}
use Rattle.mtrace_replay.proofs.Told.SiteLemmas.Origins.{weigh-self, weighs_at}

-- what weighs nothing by one weighs nothing
pub weigh-nothing : (p q : Origin) (n : ℕ) → weigh p q 1 ≡ 0 → weigh p q n ≡ 0
weigh-nothing p q n none = by (is_eq (origin_cmp p q)) none
  where
    by : (b : Bool) → cond {A = ℕ} b 1 0 ≡ 0 → cond b n 0 ≡ 0
    by true one = absurd (omega (arith, one))
    by false one = refl

-- neither below nor the same
by_order : (o : Ordering) → is_lt o ≡ false → (o ≡ Equal → ⊥) → ordering_reverse o ≡ Less
by_order Less l e = cc
by_order Equal l e = absurd (e refl)
by_order Greater l e = refl

module _ {X : Type 0} (at : X → Origin) where
  -- a sum above 0 has a part above 0
  any_later : (P : X → Type 0) (x : X) (xs : List X) → Any P xs → Any P (x ∷ xs)
  any_later P x xs (k, y, lt, is, p) = (suc k, y, omega (arith, lt), is, p)

  found : (f : X → ℕ) (xs : List X) → 0 < sum_by f xs → Any (λ x. 0 < f x) xs
  found f [] some = absurd (omega (arith, some))
  found f (x ∷ xs) some = by_here (f x) refl (found f xs)
    where
      by_here : (n : ℕ) → f x ≡ n → (0 < sum_by f xs → Any (λ x. 0 < f x) xs) → Any (λ x. 0 < f x) (x ∷ xs)
      by_here zero is later = any_later (λ y. 0 < f y) x xs (later (omega (arith, some, sum_by-cons f x xs, is)))
      by_here (suc n) is later = (0, x, omega arith, refl, omega (arith, is))

  any_map : (P Q : X → Type 0) (xs : List X) → ((x : X) → P x → Q x) → Any P xs → Any Q xs
  any_map P Q xs h (k, y, lt, is, p) = (k, y, lt, is, h y p)

  all_nothing : (m : X → ℕ) (p : Origin) (ss : List X) → sum_by (λ t. weigh p (at t) 1) ss ≡ 0 → sum_by (λ t. weigh p (at t) (m t)) ss ≡ 0
  all_nothing m p [] none = refl
  all_nothing m p (s ∷ ss) none =
      let whole = sum_by-cons (λ (t : X). weigh p (at t) 1) s ss in
      omega (arith, sum_by-cons (λ (t : X). weigh p (at t) (m t)) s ss, weigh-nothing p (at s) (m s) (omega (arith, whole, none)), all_nothing m p ss (omega (arith, whole, none)))

  -- each has all that is at its origin
  pub own_one : (m : X → ℕ) (ss : List X) → ((p : Origin) → sum_by (λ t. weigh p (at t) 1) ss ≤ 1) → AllByRecursion (λ s. sum_by (λ t. weigh (at s) (at t) (m t)) ss ≡ m s) ss
  own_one m [] one = tt
  own_one m (s ∷ ss) one = (head, tail ss (own_one m ss rest) (own_one (λ t. 1) ss rest))
    where
      rest : (p : Origin) → sum_by (λ t. weigh p (at t) 1) ss ≤ 1
      rest p = omega (arith, sum_by-cons (λ t. weigh p (at t) 1) s ss, one p)

      head : sum_by (λ t. weigh (at s) (at t) (m t)) (s ∷ ss) ≡ m s
      head =
          let nothing = all_nothing m (at s) ss (omega (arith, sum_by-cons (λ t. weigh (at s) (at t) 1) s ss, weigh-self (at s) 1, one (at s))) in
          omega (arith, sum_by-cons (λ t. weigh (at s) (at t) (m t)) s ss, weigh-self (at s) (m s), nothing)

      tail : (us : List X) → AllByRecursion (λ u. sum_by (λ t. weigh (at u) (at t) (m t)) ss ≡ m u) us → AllByRecursion (λ u. sum_by (λ t. weigh (at u) (at t) 1) ss ≡ 1) us
          → AllByRecursion (λ u. sum_by (λ t. weigh (at u) (at t) (m t)) (s ∷ ss) ≡ m u) us
      tail [] all ones = tt
      tail (u ∷ us) (its, all) (single, ones) =
          let nothing = weigh-nothing (at u) (at s) (m s) (omega (arith, sum_by-cons (λ t. weigh (at u) (at t) 1) s ss, single, one (at u))) in
          (omega (arith, sum_by-cons (λ t. weigh (at u) (at t) (m t)) s ss, its, nothing), tail us all ones)

  -- an origin at which there is something has one
  pub has_one : (m : X → ℕ) (p : Origin) (xs : List X) → 0 < sum_by (λ t. weigh p (at t) (m t)) xs → Any (λ t. at t ≡ p) xs
  has_one m p xs some = any_map (λ t. 0 < weigh p (at t) (m t)) (λ t. at t ≡ p) xs (λ t h. weighs_at p (at t) (m t) h) (found (λ t. weigh p (at t) (m t)) xs some)

module _ {X : Type 0} (at : X → Origin) (cmp : X → X → Ordering) (total : IsTotalOrder cmp) (same : (s t : X) → cmp s t ≡ Equal → at s ≡ at t) where
  zeros : (f : X → ℕ) (xs : List X) → sum_by f xs ≡ 0 → AllByRecursion (λ x. f x ≡ 0) xs
  zeros f [] none = tt
  zeros f (x ∷ xs) none = (omega (arith, sum_by-cons f x xs, none), zeros f xs (omega (arith, sum_by-cons f x xs, none)))

  tail_sorted : (x : X) (xs : List X) → IsSorted cmp (x ∷ xs) → IsSorted cmp xs
  tail_sorted x xs up k d low high =
      let e : suc k + 1 ≡ suc (k + 1) = omega arith in
      subst (λ j. is_lt (cmp (get_or (x ∷ xs) j d) (get_or xs k d)) ≡ false) e (up (suc k) d (omega arith) (omega (arith, high)))

  pub strict : (xs : List X) → IsSorted cmp xs → ((p : Origin) → sum_by (λ t. weigh p (at t) 1) xs ≤ 1) → IsStrictlySortedBy cmp xs
  unfolding IsStrictlySortedBy
  strict [] up one = tt
  strict (x ∷ xs) up one =
      let f = λ (t : X). weigh (at x) (at t) 1 in
      let sum : sum_by f (x ∷ xs) ≡ f x + sum_by f xs = sum_by-cons f x xs in
      let none : sum_by f xs ≡ 0 = omega (arith, sum, weigh-self (at x) 1, one (at x)) in
      let far : All (λ t. f t ≡ 0) xs = All-from_recursion (λ t. f t ≡ 0) xs (zeros f xs none) in
      let weak : IsStrictWeakOrder (λ s t. is_lt (cmp s t)) = ranks_by total (λ (s : X). s) in (
        recursion_from_All (λ t. cmp x t ≡ Less) xs (λ k d lt. let y = get_or xs k d in
            total.antisymm x y ∙ by_order (cmp y x) (sorted_far (λ s t. is_lt (cmp s t)) weak (x ∷ xs) up 0 (suc k) d (omega arith) (omega (arith, lt)))
            (λ tie. let eq : at y ≡ at x = same y x tie in
            let w : weigh (at x) (at x) 1 ≡ 0 = subst (λ (o : Origin). weigh (at x) o 1 ≡ 0) eq (far k d lt) in absurd (omega (arith, w, weigh-self (at x) 1)))),
        strict xs (tail_sorted x xs up) (λ p. omega (arith, sum_by-cons (λ t. weigh p (at t) 1) x xs, one p)),
      )
