-- The table is held against the digits at each byte and at each digit, by computing.
use Rattle.std.proofs.Common.{◌≡◌, ℕ, zero, suc, ◌<◌, Bool, true, not, ◌&&◌, ◌||◌, get_or, List, refl, arith, inl, inr, ap, sym}
use Rattle.std.specs.Prelude.{◌==◌, nat_lt}
use Rattle.std.specs.Char.{digit_char}
use Rattle.std.proofs.lemmas.Bool.{and_parts, or_cases, cases_eq, eqb-true, not-true, lt-ltb}
use Rattle.mtrace_log.specs.declared.hex.TheConstants.{DIGITS}
use Rattle.mtrace_log.proofs.hex.digit_of.Goals as goal

-- a test holds at each number below n
holds_below : (ℕ → Bool) → ℕ → Bool
holds_below test zero = true
holds_below test (suc n) = test n && holds_below test n

holds_at : (test : ℕ → Bool) (n k : ℕ) → holds_below test n ≡ true → k < n → test k ≡ true
unfolding holds_below
holds_at test zero k all below = absurd (omega arith)
holds_at test (suc n) k all below =
    let parts = and_parts (test n) (holds_below test n) all in
    elim (cases_eq k n) [ inl same ↦ rw same parts.0 | inr other ↦ holds_at test n k parts.1 (omega arith) ]

-- where the table has a number below 16, the byte is that digit
is_written : List ℕ → ℕ → Bool
is_written table byte = not (nat_lt (get_or table byte 0) 16) || (digit_char (get_or table byte 0) == byte)

-- the table has the digit at the byte that writes it
is_read : List ℕ → ℕ → Bool
is_read table digit = get_or table (digit_char digit) 0 == digit

written : (table : List ℕ) (byte : ℕ) → holds_below (is_written table) 256 ≡ true → byte < 256 → get_or table byte 0 < 16 → byte ≡ digit_char (get_or table byte 0)
unfolding is_written
written table byte all fits small =
    elim (or_cases (not (nat_lt (get_or table byte 0) 16)) (digit_char (get_or table byte 0) == byte) (holds_at (is_written table) 256 byte all fits)) [
      | inl large ↦ absurd (let is = not-true (nat_lt (get_or table byte 0) 16) large in let below = lt-ltb (get_or table byte 0) 16 small in cc)
      | inr same ↦ sym (eqb-true (digit_char (get_or table byte 0)) byte same)
    ]

read : (table : List ℕ) (digit : ℕ) → holds_below (is_read table) 16 ≡ true → digit < 16 → get_or table (digit_char digit) 0 ≡ digit
unfolding is_read
read table digit all small = eqb-true (get_or table (digit_char digit) 0) digit (holds_at (is_read table) 16 digit all small)

pub returns-then-digit-lt16 : goal.returns-then-digit-lt16
unfolding holds_below is_written
returns-then-digit-lt16 c = (omega arith, written DIGITS c.args.byte refl (omega arith) (omega arith))

pub returns-else-digit-lt16 : goal.returns-else-digit-lt16
unfolding holds_below is_read
returns-else-digit-lt16 c = λ digit small same.
    let there = read DIGITS digit refl small in
    let here = ap (λ (byte : ℕ). get_or DIGITS byte 0) same in
    omega (arith, there, here)
