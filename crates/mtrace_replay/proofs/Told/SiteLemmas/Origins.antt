-- The order of origins is total, and two that tie are one.
use Rattle.std.proofs.Common.{◌≡◌, ℕ, ◌+◌, ◌<◌, Bool, true, false, cond, Some, None, refl, sym, ap, ◌∙◌, arith, ◌⊎◌, inl, inr}
use Rattle.std.specs.Ordering.{is_eq, is_lt, ordering_reverse}
use Rattle.std.specs.Cmp.{IsTotalOrder}
use Rattle.std.specs.Cmp.Lexicographic.{options_total, nat_list_cmp_total}
use Rattle.std.specs.FinMap.{nat_cmp-IsAntisymmetric, slice_cmp-IsAntisymmetric}
use Rattle.std.specs.declared.cmp.Ordering.{Ordering}
use Rattle.std.specs.declared.cmp.Ordering.TheVariants.{Less, Equal, Greater}
use Rattle.std.proofs.lemmas.Cmp.{tied_itself}
use Rattle.mtrace_replay.specs.Sites.{Origin, origin_cmp, weigh}

pub origin_total : IsTotalOrder origin_cmp
unfolding origin_cmp
origin_total = options_total nat_list_cmp_total

pub origin_same : (p q : Origin) → origin_cmp p q ≡ Equal → p ≡ q
unfolding origin_cmp
origin_same None None e = refl
origin_same None (Some y) e = cc
origin_same (Some x) None e = cc
origin_same (Some x) (Some y) e = ap Some (slice_cmp-IsAntisymmetric nat_cmp-IsAntisymmetric x y e)

pub is_eq-Equal : (o : Ordering) → is_eq o ≡ true → o ≡ Equal
is_eq-Equal Less e = cc
is_eq-Equal Equal e = refl
is_eq-Equal Greater e = cc

-- not below and not the same: above, so the other is below
above : (o : Ordering) → is_lt o ≡ false → is_eq o ≡ false → o ≡ Greater
above Less l e = cc
above Equal l e = cc
above Greater l e = refl

pub below_other : (p q : Origin) → is_lt (origin_cmp q p) ≡ false → is_eq (origin_cmp q p) ≡ false → origin_cmp p q ≡ Less
below_other p q l e = origin_total.antisymm p q ∙ ap ordering_reverse (above (origin_cmp q p) l e)

pub bool_cases : (b : Bool) → (b ≡ true) ⊎ (b ≡ false)
bool_cases true = inl refl
bool_cases false = inr refl

add_cond : (t : Bool) (a b : ℕ) → cond t (a + b) 0 ≡ cond t a 0 + cond t b 0
add_cond true a b = refl
add_cond false a b = refl

pub weigh-add : (p q : Origin) (a b : ℕ) → weigh p q (a + b) ≡ weigh p q a + weigh p q b
weigh-add p q a b = add_cond (is_eq (origin_cmp p q)) a b

pub weigh-self : (p : Origin) (n : ℕ) → weigh p p n ≡ n
weigh-self p n = ap (λ o. cond (is_eq o) n 0) (tied_itself origin_total p)

pub weigh-same : (p q : Origin) (n : ℕ) → is_eq (origin_cmp p q) ≡ true → weigh p q n ≡ n
weigh-same p q n e = ap (λ o. cond o n 0) e

pub weigh-other : (p q : Origin) (n : ℕ) → is_eq (origin_cmp p q) ≡ false → weigh p q n ≡ 0
weigh-other p q n e = ap (λ o. cond o n 0) e

pub weigh-below : (p q : Origin) (n : ℕ) → origin_cmp p q ≡ Less → weigh p q n ≡ 0
weigh-below p q n e = ap (λ o. cond (is_eq o) n 0) e

pub weigh-above : (p q : Origin) (n : ℕ) → origin_cmp q p ≡ Less → weigh p q n ≡ 0
weigh-above p q n e = ap (λ o. cond (is_eq o) n 0) (origin_total.antisymm p q ∙ ap ordering_reverse e)

-- what weighs is at the origin
pub weighs_at : (p q : Origin) (n : ℕ) → 0 < weigh p q n → q ≡ p
weighs_at p q n some = by_test (bool_cases (is_eq (origin_cmp p q)))
  where
    by_test : (is_eq (origin_cmp p q) ≡ true) ⊎ (is_eq (origin_cmp p q) ≡ false) → q ≡ p
    by_test (inl e) = sym (origin_same p q (is_eq-Equal (origin_cmp p q) e))
    by_test (inr e) = absurd (omega (arith, weigh-other p q n e))
