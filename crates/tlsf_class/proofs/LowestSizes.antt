-- The lowest sizes rise from class to class, and are multiples of the unit.
use Rattle.std.proofs.Common.{◌≡◌, ℕ, zero, suc, pred, ◌+◌, ◌*◌, ◌/◌, ◌%◌, ◌^◌, ◌<◌, ◌≤◌, ◌∙◌, sym, ap, subst, inl, inr, arith, pow_pos, pow-add, refl}
use Rattle.std.proofs.Math.Nat.{pow-suc}
use Rattle.std.proofs.lemmas.Bool.{cases_lt, cond-false, ne_eqb}
use Rattle.tlsf_class.specs.Classes.{unit, steps, level_power, step_power, low_at, low}

-- a first level begins as many of its steps above 0 as a level has steps
level_is_steps : (f : ℕ) → 2 ^ (f + level_power) ≡ steps * 2 ^ (f + step_power)
level_is_steps f = omega (arith, pow-add 2 f level_power, pow-add 2 f step_power)

pub low_at-first : (g : ℕ) → low_at 0 g ≡ unit * g
low_at-first g = refl

pub low_at-later : (f g : ℕ) → 0 < f → low_at f g ≡ 2 ^ (f + level_power) + g * 2 ^ (f + step_power)
low_at-later f g later = cond-false _ _ _ (ne_eqb f 0 (λ same. omega arith))

low_at-step : (f g : ℕ) → low_at f g < low_at f (suc g)
low_at-step zero g = omega arith
low_at-step (suc f) g =
    let now : low_at (suc f) g ≡ 2 ^ (suc f + level_power) + g * 2 ^ (suc f + step_power) = low_at-later (suc f) g (omega arith) in
    let next : low_at (suc f) (suc g) ≡ 2 ^ (suc f + level_power) + suc g * 2 ^ (suc f + step_power) = low_at-later (suc f) (suc g) (omega arith) in
    omega (arith, now, next, pow_pos (suc f + step_power))

low_at-level : (f g : ℕ) → suc g ≡ steps → low_at f g < low_at (suc f) 0
low_at-level zero g last = let next : low_at 1 0 ≡ 2 ^ (1 + level_power) + 0 = low_at-later 1 0 (omega arith) in omega (arith, next)
low_at-level (suc f) g last =
    let now : low_at (suc f) g ≡ 2 ^ (suc f + level_power) + g * 2 ^ (suc f + step_power) = low_at-later (suc f) g (omega arith) in
    let next : low_at (suc (suc f)) 0 ≡ 2 ^ (suc (suc f) + level_power) + 0 * 2 ^ (suc (suc f) + step_power) = low_at-later (suc (suc f)) 0 (omega arith) in
    let same : g ≡ pred steps = omega arith in
    let part : g * 2 ^ (suc f + step_power) ≡ pred steps * 2 ^ (suc f + step_power) = ap (λ v. v * 2 ^ (suc f + step_power)) same in
    let double : 2 ^ (suc (suc f) + step_power) ≡ 2 * 2 ^ (suc f + step_power) =
    omega (arith, pow-add 2 (suc f) step_power, pow-add 2 (suc (suc f)) step_power, pow-suc 2 (suc f)) in
    omega (arith, now, next, part, double, level_is_steps (suc f), level_is_steps (suc (suc f)), pow_pos (suc f + step_power))

pub low-rises : (c : ℕ) → low c < low (suc c)
unfolding low
low-rises c =
    elim (cases_lt (suc (c % steps)) steps) [
      | inl within ↦
          let level : suc c / steps ≡ c / steps = omega arith in
          let step : suc c % steps ≡ suc (c % steps) = omega arith in
          rw (level, step) (low_at-step (c / steps) (c % steps))
      | inr last ↦
          let level : suc c / steps ≡ suc (c / steps) = omega arith in
          let step : suc c % steps ≡ 0 = omega arith in
          rw (level, step) (low_at-level (c / steps) (c % steps) (omega arith))
    ]

-- a higher class has a higher lowest size
pub low-lt : (c d : ℕ) → c < d → low c < low d
low-lt c zero less = omega arith
low-lt c (suc d) less =
    elim (cases_lt c d) [
      | inl before ↦ omega (arith, low-lt c d before, low-rises d)
      | inr last ↦ let same : c ≡ d = omega arith in subst (λ k. low k < low (suc d)) (sym same) (low-rises d)
    ]

pub low-le : (c d : ℕ) → c ≤ d → low c ≤ low d
low-le c d most =
    elim (cases_lt c d) [
      | inl before ↦ omega (arith, low-lt c d before)
      | inr last ↦ let same : c ≡ d = omega arith in subst (λ k. low c ≤ low k) same (omega arith)
    ]

pub low-0 : low 0 ≡ 0
unfolding low
low-0 = refl

low_at-unit : (f g : ℕ) → low_at f g % unit ≡ 0
low_at-unit zero g = omega (arith, low_at-first g)
low_at-unit (suc f) g =
    let now : low_at (suc f) g ≡ 2 ^ (suc f + level_power) + g * 2 ^ (suc f + step_power) = low_at-later (suc f) g (omega arith) in
    let units : 2 ^ (suc f + step_power) ≡ unit * 2 ^ f = omega (arith, pow-add 2 (suc f) step_power, pow-suc 2 f) in
    let part : g * 2 ^ (suc f + step_power) ≡ unit * (g * 2 ^ f) = ap (λ v. g * v) units ∙ omega arith in
    omega (arith, now, part, units, level_is_steps (suc f))

-- a lowest size is a multiple of the unit
pub low-unit : (c : ℕ) → low c % unit ≡ 0
unfolding low
low-unit c = low_at-unit (c / steps) (c % steps)

pub low-1 : low 1 ≡ unit
unfolding low
low-1 = refl
