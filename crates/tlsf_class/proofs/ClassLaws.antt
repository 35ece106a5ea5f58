-- The laws of the class of a size and of the first class that holds a size.
use Rattle.std.proofs.Common.{◌≡◌, ℕ, pred, ◌+◌, ◌<◌, ◌≤◌, leb, Option, Some, None, ap, subst, inl, inr, refl, arith}
use Rattle.std.proofs.lemmas.Bool.{cases_lt, le-leb, leb-true, leb-false}
use Rattle.tlsf_class.specs.Classes.{classes, low, class, need}
use Rattle.tlsf_class.proofs.Extremes.{greatest_le, greatest_passes, greatest_above, AnswersLeast, IsLeast, least_answers}
use Rattle.tlsf_class.proofs.LowestSizes.{low-0, low-lt, low-le}

-- ---- the class of a size

pub class-lt : (s : ℕ) → class s < classes
unfolding class
class-lt s = omega (arith, greatest_le (λ c. leb (low c) s) (pred classes))

-- the lowest size of a block's class is at most the block
pub low-class : (s : ℕ) → low (class s) ≤ s
unfolding class
low-class s =
    leb-true _ _ (greatest_passes (λ c. leb (low c) s) (pred classes) (le-leb (low 0) s (omega (arith, low-0))))

-- each class that begins at or below a size is at most the size's class
pub le-class : (s c : ℕ) → c < classes → low c ≤ s → c ≤ class s
unfolding class
le-class s c below most = greatest_above (λ k. leb (low k) s) classes c below (le-leb (low c) s most)

-- below the last class, a size is below the lowest size of the next class
pub lt-low_next : (s : ℕ) → class s + 1 < classes → s < low (class s + 1)
lt-low_next s below =
    elim (cases_lt s (low (class s + 1))) [
      | inl less ↦ less
      | inr most ↦ let none : ⊥ = omega (arith, le-class s (class s + 1) below most) in absurd none
    ]

-- a size at or above a lowest size and below the next is of that class
pub class_from : (s c : ℕ) → c < classes → low c ≤ s → (c + 1 < classes → s < low (c + 1)) → class s ≡ c
class_from s c below most next =
    let at_least : c ≤ class s = le-class s c below most in
    elim (cases_lt c (class s)) [
      | inl less ↦
          let within : c + 1 < classes = omega (arith, class-lt s) in
          let none : ⊥ = omega (arith, next within, low-class s, low-le (c + 1) (class s) (omega arith)) in
          absurd none
      | inr same ↦ omega arith
    ]

-- the class of a lowest size is its own
pub class-low : (c : ℕ) → c < classes → class (low c) ≡ c
class-low c below = class_from (low c) c below (omega arith) (λ within. low-lt c (c + 1) (omega arith))

-- a size is below the lowest size of each class above its own
pub lt-low_above : (s c : ℕ) → class s < c → c < classes → s < low c
lt-low_above s c above below =
    omega (arith, lt-low_next s (omega arith), low-le (class s + 1) c (omega arith))

-- ---- the first class that holds a size

need_answers : (m : ℕ) → AnswersLeast (λ c. leb m (low c)) classes (need m)
unfolding need
need_answers m = least_answers (λ c. leb m (low c)) classes

some_answer : (m : ℕ) (answer : Option ℕ) (c : ℕ) → AnswersLeast (λ k. leb m (low k)) classes answer → answer ≡ Some c →
    IsLeast (λ k. leb m (low k)) classes c
some_answer m answer c h is = let h' : AnswersLeast (λ k. leb m (low k)) classes (Some c) = subst (λ v. AnswersLeast (λ k. leb m (low k)) classes v) is h in h'

need_is : (m c : ℕ) → need m ≡ Some c → IsLeast (λ k. leb m (low k)) classes c
need_is m c is = some_answer m (need m) c (need_answers m) is

pub need-lt : (m c : ℕ) → need m ≡ Some c → c < classes
need-lt m c is = (need_is m c is).below

-- the lowest size of the class holds what was asked
pub le-low_need : (m c : ℕ) → need m ≡ Some c → m ≤ low c
le-low_need m c is = leb-true _ _ (need_is m c is).passes

-- and no lower class does
pub low_before_need : (m c k : ℕ) → need m ≡ Some c → k < c → low k < m
low_before_need m c k is less = leb-false _ _ ((need_is m c is).first k less)

-- where no class holds what was asked, it is above the last lowest size
pub need-None : (m : ℕ) → need m ≡ None → low (pred classes) < m
need-None m is =
    let h : AnswersLeast (λ k. leb m (low k)) classes None = subst (λ v. AnswersLeast (λ k. leb m (low k)) classes v) is (need_answers m) in
    leb-false _ _ (h (pred classes) (omega arith))

-- a block of a class at or above the one needed holds what was asked
pub need_holds : (m c s : ℕ) → need m ≡ Some c → c ≤ class s → m ≤ s
need_holds m c s is most = omega (arith, le-low_need m c is, low-le c (class s) most, low-class s)

-- the class that is needed is the one class whose lowest size holds what was asked and whose lower neighbour's does not
pub need_from : (m c : ℕ) → c < classes → m ≤ low c → ((k : ℕ) → k < c → low k < m) → need m ≡ Some c
need_from m c below most before = of (need m) refl
  where
    of : (answer : Option ℕ) → need m ≡ answer → answer ≡ Some c
    of None is = let none : ⊥ = omega (arith, need-None m is, low-le c (pred classes) (omega arith)) in absurd none
    of (Some d) is =
        elim (cases_lt c d) [
          | inl less ↦ let none : ⊥ = omega (arith, low_before_need m d c is less) in absurd none
          | inr more ↦
              elim (cases_lt d c) [
                | inl less ↦ let none : ⊥ = omega (arith, le-low_need m d is, before d less) in absurd none
                | inr same ↦ ap Some (omega arith)
              ]
        ]

-- nothing above the last lowest size has a class that holds it
pub need_above : (m : ℕ) → low (pred classes) < m → need m ≡ None
need_above m above = of (need m) refl
  where
    of : (answer : Option ℕ) → need m ≡ answer → answer ≡ None
    of None is = refl
    of (Some d) is =
        let none : ⊥ = omega (arith, le-low_need m d is, low-le d (pred classes) (omega (arith, need-lt m d is))) in absurd none

-- the class that a lowest size needs is its own
pub need-low : (c : ℕ) → c < classes → need (low c) ≡ Some c
need-low c below = need_from (low c) c below (omega arith) (λ k less. low-lt k c less)
