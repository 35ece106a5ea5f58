-- A power of two from the unit on, up to the greatest alignment, is the lowest size of a class.
use Rattle.std.proofs.Common.{◌≡◌, ℕ, ◌+◌, ◌-◌, ◌*◌, ◌/◌, ◌%◌, ◌^◌, ◌<◌, ◌≤◌, true, Some, inl, inr, refl, sym, ap, ◌∙◌, arith, pow_mono, pow-add, zero-add}
use Rattle.std.specs.Prelude.{◌==◌}
use Rattle.std.specs.List.{range_with_len}
use Rattle.std.proofs.lemmas.Bool.{cases_lt, eqb-true}
use Rattle.std.proofs.lemmas.List.Folds.{Any-from_list_any}
use Rattle.std.proofs.lemmas.List.FromFn.{length-range_with_len, get_or-range_with_len}
use Rattle.tlsf_class.specs.Classes.{unit, unit_power, steps, classes, level_power, step_power, low_at, low, need}
use Rattle.tlsf_class.proofs.LowestSizes.{low_at-later, low-unit}
use Rattle.tlsf_class.proofs.ClassLaws.{need-low}
use Rattle.tlsf_class.proofs.RoundingLaws.{round_within, rounded_from}
use Rattle.tlsf_heap.specs.Memalign.{alignments, is_alignment}
use Rattle.tlsf_heap.proofs.Good.OneSizePool.{IsLowest}

low_by_parts : (c f g : ℕ) → c / steps ≡ f → c % steps ≡ g → low c ≡ low_at f g
unfolding low
low_by_parts c f g level step = rw (level, step) refl

-- the class of which the power is the lowest size
class_of_power : (k : ℕ) → unit_power ≤ k → k < alignments → (c : ℕ) × (c < classes) × (low c ≡ 2 ^ k)
class_of_power k above below = elim (cases_lt k (level_power + 1)) [
  | inl first ↦
      let c : ℕ = 2 ^ (k - unit_power) in
      let few : c ≤ 2 ^ 4 = pow_mono {i = k - unit_power} {j = 4} (omega (arith, first)) in
      let is : low c ≡ unit * c = low_by_parts c 0 c (omega (arith, few)) (omega (arith, few)) in
      let sum : unit_power + (k - unit_power) ≡ k = omega (arith, above) in
      (c, omega (arith, few), is ∙ sym (pow-add 2 unit_power (k - unit_power)) ∙ ap (λ n. 2 ^ n) sum)
  | inr later ↦
      let f : ℕ = k - level_power in
      let sum : f + level_power ≡ k = omega (arith, later) in
      let is : low (f * steps) ≡ low_at f 0 = low_by_parts (f * steps) f 0 (omega arith) (omega arith) in
      let at : low_at f 0 ≡ 2 ^ (f + level_power) + 0 * 2 ^ (f + step_power) = low_at-later f 0 (omega (arith, later)) in
      (f * steps, omega (arith, below, sum), omega (arith, is, at, ap (λ n. 2 ^ n) sum))
]

-- so it is for an alignment from the unit on
pub lowest_of_alignment : (size : ℕ) → is_alignment size ≡ true → unit ≤ size → IsLowest size
lowest_of_alignment size is least =
    let at = Any-from_list_any (λ power. 2 ^ power == size) (range_with_len 0 alignments) is in
    let below : at.0 < alignments = omega (arith, at.2, length-range_with_len 0 alignments) in
    let power : 2 ^ at.1 ≡ size = eqb-true (2 ^ at.1) size at.4 in
    let place : at.1 ≡ at.0 = sym at.3 ∙ get_or-range_with_len 0 alignments at.0 at.1 below ∙ zero-add at.0 in
    let above : unit_power ≤ at.1 = elim (cases_lt at.1 unit_power) [
      | inl less ↦ absurd (omega (arith, pow_mono {i = at.1} {j = 3} (omega (arith, less)), power, least))
      | inr more ↦ more
    ] in
    let there = class_of_power at.1 above (omega (arith, below, place)) in
    let sized : low there.0 ≡ size = there.2 ∙ power in
    let few : size ≤ 2 ^ 29 = omega (arith, pow_mono {i = at.1} {j = 29} (omega (arith, below, place)), power) in
    let whole : size % unit ≡ 0 = ap (λ n. n % unit) (sym sized) ∙ low-unit there.0 in
    record {
      c = there.0;
      needed = ap need (sym sized) ∙ need-low there.0 there.1;
      sized = sized;
      rounds = round_within size (omega (arith, least)) (omega (arith, few)) ∙ ap (λ n. Some n) (rounded_from size size whole (omega arith) (omega arith));
    }
