-- The alignments as the code finds them: powers of two that are not too great.
use Rattle.std.proofs.Common.{◌≡◌, ℕ, zero, suc, ◌+◌, ◌-◌, ◌*◌, ◌/◌, ◌%◌, ◌^◌, ◌<◌, ◌≤◌, true, false, ◌&&◌, refl, sym, ap, ◌∙◌, subst, arith, inl, inr, pow_mono, zero-add, pow-add, Some}
use Rattle.std.specs.Prelude.{◌⊎◌, count_ones, slice_index_or, ◌==◌, nat_le}
use Rattle.std.specs.List.{range_with_len}
use Rattle.std.specs.Int.{is_power_of_two, next_multiple_of}
use Rattle.std.specs.Int.Count.{ones_step}
use Rattle.std.proofs.Math.Nat.{two-pow-succ, mul-mod_right, mod_self, sub-zero, mod-eq_of_lt, mod-mod_of_dvd, zero-mod, add-mul-mod_self_right}
use Rattle.std.proofs.lemmas.Nat.Gcd.{dvd_of_mod-eq-zero}
use Rattle.std.proofs.lemmas.Bool.{cases_Bool, cases_lt, eq-eqb, eqb-true, eqb-false, leb-true, le-leb, leb-false, lt-leb, and_parts}
use Rattle.std.proofs.lemmas.Nat.{zero_from_ones, ones-le, mod_below, div-add-mod'}
use Rattle.std.proofs.lemmas.List.Folds.{Any-from_list_any, list_any_at}
use Rattle.std.proofs.lemmas.List.FromFn.{length-range_with_len, get_or-range_with_len}
use Rattle.tlsf_class.specs.Classes.{unit, unit_power}
use Rattle.tlsf_class.specs.Rounding.{round}
use Rattle.tlsf_class.proofs.RoundingLaws.{round-Some}
use Rattle.tlsf_heap.specs.Content.{IsSize}
use Rattle.tlsf_heap.specs.Memalign.{alignments, is_alignment, size_asked}

no_ones : count_ones 0 ≡ 0
no_ones = omega (arith, ones-le 0 0 (omega arith))

ones-power : (k : ℕ) → count_ones (2 ^ k) ≡ 1
ones-power zero = omega (arith, ones_step 1, no_ones)
ones-power (suc k) =
    let twice : 2 ^ suc k ≡ 2 ^ k + 2 ^ k = two-pow-succ k in
    let half : 2 ^ suc k / 2 ≡ 2 ^ k = omega (arith, twice) in
    omega (arith, ones_step (2 ^ suc k), twice, ap count_ones half, ones-power k)

-- a number with one bit set is a power of two
power_from_ones : (most n : ℕ) → n ≤ most → count_ones n ≡ 1 → (k : ℕ) × (2 ^ k ≡ n)
power_from_ones zero n few one = absurd (let P : ℕ → Type 0 = λ m. count_ones m ≡ 1 in let nothing : n ≡ 0 = omega (arith, few) in omega (arith, no_ones, subst P nothing one))
power_from_ones (suc most) n few one = elim (cases_Bool (n % 2 == 1)) [
  | inl odd ↦
      let digit = eqb-true (n % 2) 1 odd in
      let rest : count_ones (n / 2) ≡ 0 = omega (arith, ones_step n, one, digit) in
      (0, omega (arith, digit, zero_from_ones (n / 2) rest))
  | inr even ↦
      let apart = eqb-false (n % 2) 1 even in
      let rest : n % 2 ≡ 0 = grind arith in
      let less : n / 2 ≤ most = elim (cases_lt 0 n) [
        | inl some ↦ omega (arith, few, some)
        | inr none ↦ omega (arith, none)
      ] in
      let half = power_from_ones most (n / 2) less (omega (arith, ones_step n, one, rest)) in
      (suc half.0, omega (arith, two-pow-succ half.0, half.1, rest))
]

-- an alignment is a power of two, up to the greatest
pub alignment_is : (align : ℕ) → is_alignment align ≡ (nat_le align (2 ^ 29) && is_power_of_two align)
alignment_is align = elim (cases_Bool (is_alignment align)) [
  | inl found ↦
      let at = Any-from_list_any (λ power. 2 ^ power == align) (range_with_len 0 alignments) found in
      let below : at.0 < alignments = omega (arith, at.2, length-range_with_len 0 alignments) in
      let power : 2 ^ at.1 ≡ align = eqb-true (2 ^ at.1) align at.4 in
      let is : at.1 ≡ at.0 = sym at.3 ∙ get_or-range_with_len 0 alignments at.0 at.1 below ∙ zero-add at.0 in
      let few : align ≤ 2 ^ 29 = omega (arith, pow_mono {i = at.1} {j = 29} (omega (arith, is, below)), power) in
      let one : count_ones align ≡ 1 = ap count_ones (sym power) ∙ ones-power at.1 in
      found ∙ sym (rw (le-leb align (2 ^ 29) few, eq-eqb (count_ones align) 1 one) refl)
  | inr none ↦ elim (cases_Bool (nat_le align (2 ^ 29) && is_power_of_two align)) [
    | inr neither ↦ none ∙ sym neither
    | inl both ↦
        let parts = and_parts _ _ both in
        let power = power_from_ones align align (omega arith) (eqb-true (count_ones align) 1 parts.1) in
        let few = leb-true align (2 ^ 29) parts.0 in
        let below : power.0 < alignments = elim (cases_lt power.0 30) [
          | inl less ↦ less
          | inr more ↦ absurd (omega (arith, pow_mono {i = 30} {j = power.0} more, power.1, few))
        ] in
        let here : (2 ^ slice_index_or (range_with_len 0 alignments) power.0 0 == align) ≡ true = eq-eqb _ align (ap (λ k. 2 ^ k) (get_or-range_with_len 0 alignments power.0 0 below ∙ zero-add power.0) ∙ power.1) in
        list_any_at (λ k. 2 ^ k == align) (range_with_len 0 alignments) power.0 0 (omega (arith, below, length-range_with_len 0 alignments)) here ∙ sym both
  ]
]

-- the least multiple of an alignment at or above a place of whole units
pub record IsStart (align m place start : ℕ) : Type 0 where
  pub begins : place ≤ start
  pub multiple : start % align ≡ 0
  pub gap_whole : (start - place) % unit ≡ 0
  pub fits : (start - place) + m ≤ size_asked align m

-- of two powers of two, the greater is a multiple of the other
power_divides : (j k : ℕ) → j ≤ k → 2 ^ k % 2 ^ j ≡ 0
power_divides j k few =
    let as_sum : j + (k - j) ≡ k = omega arith in
    ap (λ n. 2 ^ n % 2 ^ j) (sym as_sum) ∙ ap (λ n. n % 2 ^ j) (pow-add 2 j (k - j)) ∙ mul-mod_right (2 ^ j) (2 ^ (k - j))

-- an alignment is of whole units, or takes a place of whole units as it is
alignment_cases : (k place : ℕ) → place % unit ≡ 0 → (place % 2 ^ k ≡ 0) ⊎ ((2 ^ k % unit ≡ 0) × (unit < 2 ^ k))
alignment_cases k place whole = elim (cases_lt unit_power k) [
  | inl above ↦ inr (power_divides unit_power k (omega arith), omega (arith, pow_mono {i = suc unit_power} {j = k} above))
  | inr few ↦ inl (
      sym (mod-mod_of_dvd (2 ^ k) place (dvd_of_mod-eq-zero (2 ^ k) (power_divides k unit_power (omega arith))))
      ∙ ap (λ n. n % 2 ^ k) whole ∙ zero-mod (2 ^ k))
]

module _ (align m place : ℕ) (some : 0 < align) (place_whole : place % unit ≡ 0) where
  -- at the place itself
  start_here : place % align ≡ 0 → IsStart align m place (next_multiple_of place align)
  start_here none =
      let whole : (align - place % align) % align ≡ 0 = ap (λ r. (align - r) % align) none ∙ ap (λ n. n % align) (sub-zero align) ∙ mod_self align in
      let is : next_multiple_of place align ≡ place = omega (arith, whole) in
      record {
        begins = omega (arith, is);
        multiple = ap (λ s. s % align) is ∙ none;
        gap_whole = (let zero_gap : next_multiple_of place align - place ≡ 0 = omega (arith, is) in ap (λ g. g % unit) zero_gap);
        fits = elim (cases_Bool (nat_le align unit)) [
          | inl few ↦ rw few (omega (arith, is))
          | inr more ↦ let above = leb-false align unit more in rw more (omega (arith, is, above))
        ];
      }

  -- or behind it
  start_later : 0 < place % align → align % unit ≡ 0 → unit < align → IsStart align m place (next_multiple_of place align)
  start_later left align_whole above =
      let r : ℕ = place % align in
      let below : r < align = mod_below place align some in
      let gap_is : (align - r) % align ≡ align - r = mod-eq_of_lt {n = align - r} {m = align} (omega (arith, left, below)) in
      let left_whole : r % unit ≡ 0 = mod-mod_of_dvd unit place (dvd_of_mod-eq-zero unit align_whole) ∙ place_whole in
      let parts = div-add-mod' place align in
      let end : next_multiple_of place align ≡ align + place / align * align = omega (arith, gap_is, parts, below) in
      let large : nat_le align unit ≡ false = lt-leb align unit above in
      let fits : (next_multiple_of place align - place) + m ≤ (m + align) - unit = omega (arith, gap_is, below, left_whole, align_whole, left) in
      record {
        begins = omega arith;
        multiple = ap (λ s. s % align) end ∙ add-mul-mod_self_right align (place / align) align ∙ mod_self align;
        gap_whole = (let gap : next_multiple_of place align - place ≡ align - r = omega (arith, gap_is) in ap (λ g. g % unit) gap ∙ omega (arith, below, left_whole, align_whole));
        fits = rw large fits;
      }

-- where a live block for an alignment begins
pub start_is : (align m place : ℕ) → is_alignment align ≡ true → place % unit ≡ 0 → IsStart align m place (next_multiple_of place align)
start_is align m place is whole =
    let at = Any-from_list_any (λ power. 2 ^ power == align) (range_with_len 0 alignments) is in
    let power : 2 ^ at.1 ≡ align = eqb-true (2 ^ at.1) align at.4 in
    let some : 0 < align = omega (arith, pow_mono {i = 0} {j = at.1} (omega arith), power) in
    let P : ℕ → Type 0 = λ n. (place % n ≡ 0) ⊎ ((n % unit ≡ 0) × (unit < n)) in
    elim (subst P power (alignment_cases at.1 place whole)) [
      | inl here ↦ start_here align m place some whole here
      | inr large ↦ elim (cases_lt 0 (place % align)) [
        | inl left ↦ start_later align m place some whole left large.0 large.1
        | inr none ↦ start_here align m place some whole (omega (arith, none))
      ]
    ]

-- above the unit they are of whole units
whole_above : (k : ℕ) → unit < 2 ^ k → 2 ^ k % unit ≡ 0
whole_above k above = elim (cases_lt k unit_power) [
  | inl few ↦ absurd (omega (arith, pow_mono {i = k} {j = unit_power} (omega arith), above))
  | inr more ↦ power_divides unit_power k (omega arith)
]

-- and so is what is asked of the lists
pub asked_whole : (align m : ℕ) → is_alignment align ≡ true → IsSize m → (size_asked align m % unit ≡ 0) × (0 < size_asked align m)
asked_whole align m is size = elim (cases_Bool (nat_le align unit)) [
  | inl few ↦ rw few (size.in_units, size.positive)
  | inr more ↦
      let above = leb-false align unit more in
      let at = Any-from_list_any (λ power. 2 ^ power == align) (range_with_len 0 alignments) is in
      let power : 2 ^ at.1 ≡ align = eqb-true (2 ^ at.1) align at.4 in
      let P : ℕ → Type 0 = λ n. unit < n → n % unit ≡ 0 in
      let align_whole = subst P power (whole_above at.1) above in
      rw more (omega (arith, size.in_units, align_whole, above), omega (arith, size.positive, above))
]

-- what bytes are rounded to is a size
pub round_size : (n m : ℕ) → round n ≡ Some m → IsSize m
round_size n m is = let r = round-Some n m is in record { positive = omega (arith, r.some, r.least); in_units = r.whole; at_most = r.within }
