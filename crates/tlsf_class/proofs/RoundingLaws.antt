-- The laws of rounding up to the unit.
use Rattle.std.proofs.Common.{◌≡◌, ℕ, ◌+◌, ◌-◌, ◌%◌, ◌<◌, ◌≤◌, eqb, ltb, Option, Some, None, ◌∙◌, ap, refl, inl, inr, arith}
use Rattle.std.specs.Prelude.{unwrap_or}
use Rattle.std.proofs.lemmas.Bool.{cases_lt, eqb-true, eqb-false, lt-ltb, le-ltb, ne_eqb, or_right, or_from, cond-true, cond-false}
use Rattle.tlsf_class.specs.Classes.{unit, greatest_size, least}
use Rattle.tlsf_class.specs.Rounding.{rounded, round}
use Rattle.tlsf_class.proofs.Extremes.{AnswersLeast, least_answers}

-- how far the least multiple of the unit lies above `n`
record IsGap (n k : ℕ) : Type 0 where
  below : k < unit
  whole : (n + k) % unit ≡ 0

gap_of : (n : ℕ) (answer : Option ℕ) → AnswersLeast (λ k. eqb ((n + k) % unit) 0) unit answer → IsGap n (unwrap_or answer 0)
gap_of n (Some k) h = record { below = h.below; whole = eqb-true _ _ h.passes }
gap_of n None h =
    let k : ℕ = (unit - n % unit) % unit in
    let whole : (n + k) % unit ≡ 0 = omega arith in
    let none : ⊥ = eqb-false _ _ (h k (omega arith)) whole in
    absurd none

rounded_is : (n : ℕ) → (k : ℕ) × IsGap n k × (rounded n ≡ n + k)
unfolding rounded
rounded_is n =
    let answer : Option ℕ = least (λ k. eqb ((n + k) % unit) 0) unit in
    (unwrap_or answer 0, gap_of n answer (least_answers (λ k. eqb ((n + k) % unit) 0) unit), refl)

-- what `n` is rounded to is a multiple of the unit
pub rounded-unit : (n : ℕ) → rounded n % unit ≡ 0
rounded-unit n = let g : (k : ℕ) × IsGap n k × (rounded n ≡ n + k) = rounded_is n in omega (arith, g.1.whole, g.2)

-- at or above `n`
pub le-rounded : (n : ℕ) → n ≤ rounded n
le-rounded n = let g : (k : ℕ) × IsGap n k × (rounded n ≡ n + k) = rounded_is n in omega (arith, g.2)

-- and by less than a unit
pub rounded-lt : (n : ℕ) → rounded n < n + unit
rounded-lt n = let g : (k : ℕ) × IsGap n k × (rounded n ≡ n + k) = rounded_is n in omega (arith, g.1.below, g.2)

-- it is the least multiple of the unit at or above `n`
pub rounded-le : (n m : ℕ) → m % unit ≡ 0 → n ≤ m → rounded n ≤ m
rounded-le n m whole most = omega (arith, rounded-unit n, rounded-lt n)

-- a multiple at or above `n` by less than a unit is what `n` is rounded to
pub rounded_from : (n m : ℕ) → m % unit ≡ 0 → n ≤ m → m < n + unit → rounded n ≡ m
rounded_from n m whole most near = omega (arith, rounded-unit n, le-rounded n, rounded-lt n)

pub rounded-le-greatest_size : (n : ℕ) → n ≤ greatest_size → rounded n ≤ greatest_size
rounded-le-greatest_size n most = rounded-le n greatest_size refl most

-- from 1 to the greatest size there is an answer
pub round_within : (n : ℕ) → 0 < n → n ≤ greatest_size → round n ≡ Some (rounded n)
round_within n some most =
    cond-false _ _ _ (or_from (eqb n 0) (ltb greatest_size n) (ne_eqb n 0 (λ none. omega arith)) (le-ltb greatest_size n most))

pub round-0 : round 0 ≡ None
round-0 = refl

pub round_above : (n : ℕ) → greatest_size < n → round n ≡ None
round_above n above = cond-true _ _ _ (or_right (eqb n 0) (ltb greatest_size n) (lt-ltb greatest_size n above))

-- what an answer says
pub record IsRounded (n m : ℕ) : Type 0 where
  pub some : 0 < n
  pub most : n ≤ greatest_size
  pub value : m ≡ rounded n
  pub whole : m % unit ≡ 0
  pub least : n ≤ m
  pub near : m < n + unit
  pub within : m ≤ greatest_size

-- an answer is the least multiple of the unit at or above `n`, which is from 1 to the greatest size
pub round-Some : (n m : ℕ) → round n ≡ Some m → IsRounded n m
round-Some n m is =
    elim (cases_lt 0 n) [
      | inr none ↦
          let zero_is : n ≡ 0 = omega arith in
          let at_0 : round n ≡ None = ap round zero_is ∙ round-0 in
          let never : ⊥ = cc (is, at_0) in absurd never
      | inl some ↦
          elim (cases_lt greatest_size n) [
            | inl above ↦ let never : ⊥ = cc (is, round_above n above) in absurd never
            | inr most ↦
                let value : m ≡ rounded n = cc (is, round_within n some most) in
                record {
                  some = some;
                  most = most;
                  value = value;
                  whole = omega (arith, rounded-unit n);
                  least = omega (arith, le-rounded n);
                  near = omega (arith, rounded-lt n);
                  within = omega (arith, rounded-le-greatest_size n most);
                }
          ]
    ]
