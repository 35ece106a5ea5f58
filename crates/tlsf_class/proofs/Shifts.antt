-- Lowest sizes, classes and needed classes by shifts.
use Rattle.std.proofs.Common.{◌≡◌, ℕ, zero, suc, pred, ◌+◌, ◌-◌, ◌*◌, ◌/◌, ◌%◌, ◌^◌, ◌<◌, ◌≤◌, Some, ◌∙◌, sym, ap, subst, inl, inr, refl, arith, pow_pos, pow-add}
use Rattle.std.proofs.lemmas.Bool.{cases_lt}
use Rattle.std.proofs.lemmas.Nat.{div-add-mod', mod_below, le-div, div_below, leading_top, shl_whole}
use Rattle.std.proofs.Math.Nat.{pow-suc, pow-le-pow_right}
use Rattle.std.specs.Int.Count.{count_leading_zeros}
use Rattle.tlsf_class.specs.Classes.{unit, steps, levels, classes, greatest_size, level_power, step_power, low_at, low, class, need}
use Rattle.tlsf_class.specs.Mapping.{IsHighestBit, mapped}
use Rattle.tlsf_class.proofs.LowestSizes.{low_at-first, low_at-later, low-lt, low-le, low-unit}
use Rattle.tlsf_class.proofs.ClassLaws.{class_from, class-low, need_from, need-low, le-low_need}

-- ---- lowest sizes

low-by_parts : (c f g : ℕ) → c / steps ≡ f → c % steps ≡ g → low c ≡ low_at f g
unfolding low
low-by_parts c f g level step = rw (level, step) refl

-- the classes of the first level 0, and the first class above it
pub low-small : (g : ℕ) → g ≤ steps → low g ≡ unit * g
low-small g most =
    elim (cases_lt g steps) [
      | inl within ↦ low-by_parts g 0 g (omega arith) (omega arith) ∙ low_at-first g
      | inr last ↦
          low-by_parts g 1 0 (omega arith) (omega arith) ∙ (low_at-later 1 0 (omega arith) ∙ omega arith)
    ]

-- step `g` of the first level `f`, and the first class above the level
pub low-step : (f g : ℕ) → 0 < f → g ≤ steps → low (f * steps + g) ≡ (steps + g) * 2 ^ (f + step_power)
low-step f g later most =
    elim (cases_lt g steps) [
      | inl within ↦
          let is : low (f * steps + g) ≡ low_at f g = low-by_parts (f * steps + g) f g (omega arith) (omega arith) in
          omega (arith, is, low_at-later f g later, pow-add 2 f level_power, pow-add 2 f step_power)
      | inr last ↦
          let same : g ≡ steps = omega arith in
          let is : low (f * steps + g) ≡ low_at (suc f) 0 = low-by_parts (f * steps + g) (suc f) 0 (omega arith) (omega arith) in
          let at : low_at (suc f) 0 ≡ 2 ^ (suc f + level_power) + 0 * 2 ^ (suc f + step_power) = low_at-later (suc f) 0 (omega arith) in
          let whole : (steps + g) * 2 ^ (f + step_power) ≡ (steps + steps) * 2 ^ (f + step_power) = ap (λ v. (steps + v) * 2 ^ (f + step_power)) same in
          let power : 2 ^ (suc f + level_power) ≡ (steps + steps) * 2 ^ (f + step_power) =
          ap (λ v. 2 ^ v) (let e : suc f + level_power ≡ f + suc level_power = omega arith in e)
          ∙ omega (arith, pow-add 2 f (suc level_power), pow-add 2 f step_power) in
          omega (arith, is, at, whole, power)
    ]

-- the lowest size of the last class
pub low-last : low (pred classes) ≡ (2 * steps - 1) * 2 ^ (levels - 1 + step_power)
unfolding low
low-last = refl

-- ---- classes

-- a size below the first level 1
pub class-small : (s : ℕ) → s < unit * steps → class s ≡ s / unit
class-small s below =
    let within : s / unit < steps = omega arith in
    class_from s (s / unit) (omega arith) (omega (arith, low-small (s / unit) (omega arith)))
    (λ _. omega (arith, low-small (s / unit + 1) (omega arith)))

pub need-small : (s : ℕ) → s % unit ≡ 0 → s < unit * steps → need s ≡ Some (class s)
need-small s whole below =
    let is : low (s / unit) ≡ s = omega (arith, low-small (s / unit) (omega arith)) in
    let here : need (low (s / unit)) ≡ Some (s / unit) = need-low (s / unit) (omega arith) in
    let there : need s ≡ Some (s / unit) = subst (λ v. need v ≡ Some (s / unit)) is here in
    there ∙ ap Some (sym (class-small s below))

-- a size in step `g` of the first level `f`
class-step : (s f g : ℕ) → 0 < f → f < levels → g < steps → (steps + g) * 2 ^ (f + step_power) ≤ s →
    s < (steps + (g + 1)) * 2 ^ (f + step_power) → class s ≡ f * steps + g
class-step s f g later within step from below =
    class_from s (f * steps + g) (omega arith) (omega (arith, low-step f g later (omega arith)))
    (λ _.
    let next : low (f * steps + g + 1) ≡ low (f * steps + (g + 1)) = ap low (omega arith) in
    omega (arith, next, low-step f (g + 1) later (omega arith)))

-- the size whose lowest neighbour above is step `g` of the first level `f`
need-step : (s f g : ℕ) → 0 < f → f < levels → g ≤ steps → steps * 2 ^ (f + step_power) ≤ s → s ≤ low (pred classes) →
    s ≤ (steps + g) * 2 ^ (f + step_power) → (steps + g) * 2 ^ (f + step_power) < s + 2 ^ (f + step_power) →
    (f * steps + g < classes) × (need s ≡ Some (f * steps + g))
need-step s f g later within step from most above near =
    let before : (k : ℕ) → k < f * steps + g → low k < s = λ k less. lower g step near k less in
    let below : f * steps + g < classes =
    elim (cases_lt (f * steps + g) classes) [
      | inl less ↦ less
      | inr over ↦ let never : ⊥ = omega (arith, before (pred classes) (omega arith)) in absurd never
    ] in
    (below, need_from s (f * steps + g) below (omega (arith, low-step f g later step)) before)
  where
    lower : (g : ℕ) → g ≤ steps → (steps + g) * 2 ^ (f + step_power) < s + 2 ^ (f + step_power) → (k : ℕ) → k < f * steps + g → low k < s
    lower zero step near k less = omega (arith, low-lt k (f * steps + 0) less, low-step f 0 later (omega arith))
    lower (suc g) step near k less =
        omega (arith, low-le k (f * steps + g) (omega arith), low-step f g later (omega arith))

-- ---- the shift: the power of two of the steps of a size's first level

pub record IsShift (s k : ℕ) : Type 0 where
  pub first : step_power < k
  pub last : k < levels + step_power
  pub from : steps * 2 ^ k ≤ s
  pub below : s < 2 * steps * 2 ^ k

-- a quotient and what it leaves
record Divided (n m q : ℕ) : Type 0 where
  most : q * m ≤ n
  next : n < (q + 1) * m

divided : (n m : ℕ) → 0 < m → Divided n m (n / m)
divided n m some =
    record {
      most = omega (arith, div-add-mod' n m);
      next = omega (arith, div-add-mod' n m, mod_below n m some);
    }

pub class-shift : (s k : ℕ) → IsShift s k →
    ((k - step_power) * steps + s / 2 ^ k - steps < classes) × (class s ≡ (k - step_power) * steps + s / 2 ^ k - steps)
class-shift s k shift =
    let first : step_power < k = shift.first in
    let last : k < levels + step_power = shift.last in
    let q : ℕ = s / 2 ^ k in
    let parts : Divided s (2 ^ k) q = divided s (2 ^ k) (pow_pos k) in
    let least : steps ≤ q = le-div steps s (2 ^ k) (pow_pos k) shift.from in
    let most : q < 2 * steps = div_below s (2 ^ k) (2 * steps) (pow_pos k) shift.below in
    let power : k - step_power + step_power ≡ k = omega arith in
    let step : steps + (q - steps) ≡ q = omega arith in
    let next : steps + (q - steps + 1) ≡ q + 1 = omega arith in
    let is : class s ≡ (k - step_power) * steps + (q - steps) =
    class-step s (k - step_power) (q - steps) (omega arith) (omega arith) (omega arith)
    (rw (power, step) parts.most) (rw (power, next) parts.next) in
    (omega arith, is ∙ omega arith)

-- the lowest size that a size is rounded up to
pub record IsNextLow (s r : ℕ) : Type 0 where
  pub fits : r < 2 ^ 32
  pub whole : r % unit ≡ 0
  pub least : s ≤ r
  pub most : r ≤ low (pred classes)
  pub needed : need s ≡ Some (class r)

next_low_is : (s c r : ℕ) → c < classes → need s ≡ Some c → low c ≡ r → IsNextLow s r
next_low_is s c r below needed is =
    let most : r ≤ low (pred classes) = omega (arith, low-le c (pred classes) (omega arith)) in
    let here : class r ≡ c = ap class (sym is) ∙ class-low c below in
    record {
      fits = omega (arith, low-last);
      whole = omega (arith, low-unit c);
      least = omega (arith, le-low_need s c needed);
      most = most;
      needed = needed ∙ ap Some (sym here);
    }

pub next_low-shift : (s k : ℕ) → IsShift s k → s ≤ low (pred classes) → IsNextLow s (((s - 1) / 2 ^ k + 1) * 2 ^ k)
next_low-shift s k shift top =
    let first : step_power < k = shift.first in
    let last : k < levels + step_power = shift.last in
    let p : ℕ = (s - 1) / 2 ^ k in
    let some : 0 < 2 ^ k = pow_pos k in
    let from : steps * 2 ^ k ≤ s = shift.from in
    let below : s < 2 * steps * 2 ^ k = shift.below in
    let parts : Divided (s - 1) (2 ^ k) p = divided (s - 1) (2 ^ k) some in
    let least : pred steps ≤ p = le-div (pred steps) (s - 1) (2 ^ k) some (omega arith) in
    let most : p < 2 * steps = div_below (s - 1) (2 ^ k) (2 * steps) some (omega arith) in
    let power : k - step_power + step_power ≡ k = omega arith in
    let step : steps + (p + 1 - steps) ≡ p + 1 = omega arith in
    let c : ℕ = (k - step_power) * steps + (p + 1 - steps) in
    let found : (c < classes) × (need s ≡ Some c) =
    need-step s (k - step_power) (p + 1 - steps) (omega arith) (omega arith) (omega arith)
    (rw power from) top
    (rw (power, step) (omega (arith, parts.next)))
    (rw (power, step) (omega (arith, parts.most))) in
    let is : low c ≡ (p + 1) * 2 ^ k = low-step (k - step_power) (p + 1 - steps) (omega arith) (omega arith) ∙ rw (power, step) refl in
    next_low_is s c ((p + 1) * 2 ^ k) found.0 found.1 is

-- the place of a size's highest bit, found from its leading zeros
record IsTop (s j : ℕ) : Type 0 where
  most : 2 ^ j ≤ s
  below : s < 2 ^ suc j

shift_of_top : (s j : ℕ) → unit * steps ≤ s → s ≤ greatest_size → IsTop s j → (5 ≤ j) × IsShift s (j - 5)
shift_of_top s j above most top =
    let first : suc level_power ≤ j =
    elim (cases_lt j (suc level_power)) [
      | inl less ↦
          let small : 2 ^ suc j ≤ 2 ^ suc level_power = pow-le-pow_right {n = 2} (omega arith) {i = suc j} {j = suc level_power} less in
          let never : ⊥ = omega (arith, top.below, small) in absurd never
      | inr is ↦ is
    ] in
    let last : j < levels + level_power =
    elim (cases_lt j (levels + level_power)) [
      | inl is ↦ is
      | inr more ↦
          let great : 2 ^ (levels + level_power) ≤ 2 ^ j = pow-le-pow_right {n = 2} (omega arith) {i = levels + level_power} {j = j} more in
          let never : ⊥ = omega (arith, top.most, great) in absurd never
    ] in
    let power : j - 5 + 5 ≡ j = omega arith in
    let whole : 2 ^ j ≡ 2 ^ (j - 5) * 2 ^ 5 = ap (λ v. 2 ^ v) (sym power) ∙ pow-add 2 (j - 5) 5 in (
      omega arith,
      record {
        first = omega arith;
        last = omega arith;
        from = omega (arith, whole, top.most);
        below = omega (arith, whole, top.below, pow-suc 2 j);
      },
    )

pub shift-leading_zeros : (s : ℕ) → unit * steps ≤ s → s ≤ greatest_size → (5 ≤ 31 - count_leading_zeros 32 s) × IsShift s (31 - count_leading_zeros 32 s - 5)
shift-leading_zeros s above most =
    let top : (j : ℕ) × (count_leading_zeros 32 s + suc j ≡ 32) × (2 ^ j ≤ s) × (s < 2 ^ suc j) = leading_top 32 s (omega arith) (omega arith) in
    let is : 31 - count_leading_zeros 32 s ≡ top.0 = omega (arith, top.1) in
    rw is (shift_of_top s top.0 above most (record { most = top.2; below = top.3 }))

-- the class of a size by its highest bit and the five behind it
pub class-highest_bit : (s j : ℕ) → unit * steps ≤ s → s ≤ greatest_size → IsHighestBit j s → class s ≡ mapped j s
class-highest_bit s j above most highest =
    let found = shift_of_top s j above most (record { most = highest.0; below = (let P : ℕ → Type 0 = λ n. s < 2 ^ n in subst P (omega arith) highest.1) }) in
    let shift : IsShift s (j - 5) = found.1 in
    let q : ℕ = s / 2 ^ (j - 5) in
    let first : step_power < j - 5 = shift.first in
    let least : steps ≤ q = le-div steps s (2 ^ (j - 5)) (pow_pos (j - 5)) shift.from in
    let less : q < 2 * steps = div_below s (2 ^ (j - 5)) (2 * steps) (pow_pos (j - 5)) shift.below in
    let step : q % steps ≡ q - steps = omega (arith, div-add-mod' q steps, mod_below q steps (omega arith)) in
    let is : class s ≡ (j - 5 - step_power) * steps + q - steps = (class-shift s (j - 5) shift).1 in
    is ∙ omega (arith, step)

-- ---- the lowest size of a class, from its level and step

pub low-first_level : (c : ℕ) → c / steps ≡ 0 → low c ≡ unit * (c % steps)
low-first_level c level =
    let is : c % steps ≡ c = omega arith in
    low-small c (omega arith) ∙ ap (λ v. unit * v) (sym is)

pub low-later_level : (c : ℕ) → c < classes → 0 < c / steps →
    low c ≡ (steps + c % steps) * 2 ^ (c / steps + step_power) % 2 ^ 32
low-later_level c below later =
    let f : ℕ = c / steps in
    let g : ℕ = c % steps in
    let parts : f * steps + g ≡ c = omega arith in
    let is : low c ≡ (steps + g) * 2 ^ (f + step_power) = ap low (sym parts) ∙ low-step f g later (omega arith) in
    let whole : (steps + g) * 2 ^ (f + step_power) % 2 ^ 32 ≡ (steps + g) * 2 ^ (f + step_power) =
    shl_whole (steps + g) 6 (f + step_power) 32 (omega arith) (omega arith) in
    is ∙ sym whole
