-- The number that decimal digits spell, as it is parsed.
use Rattle.std.proofs.Common.{◌≡◌, ℕ, zero, suc, ◌<◌, ◌^◌, ◌&&◌, Bool, true, false, List, [], ◌∷◌, length, Some, None, Option, refl, sym, ap, ◌∙◌, arith, if◌then◌else◌}
use Rattle.std.specs.Prelude.{Result, Ok, Err, nat_lt, slice_index}
use Rattle.std.specs.Result.{result_ok, OkIff}
use Rattle.std.specs.Str.{IsUtf8, all_ascii_digits}
use Rattle.std.specs.Str.Parse.{ParsesUnsigned, digits_value}
use Rattle.std.proofs.lemmas.Bool.{ltb-true, lt-ltb, and_parts, and_from}
use Rattle.std.proofs.lemmas.Str.{IsUtf8-from_ascii}
use Rattle.std.proofs.lemmas.Str.Parse.{IsNumeralModel, tells_all_ascii_digits, numerals_by_value, parse_digits}
use Rattle.mtrace_replay.specs.Marks.{spelled}

digits_ascii : (digits : List ℕ) → all_ascii_digits digits ≡ true → (i : ℕ) → slice_index digits i < 128
digits_ascii [] all i = omega arith
digits_ascii (first ∷ more) all zero = omega (arith, (tells_all_ascii_digits.parts first more all).0.1)
digits_ascii (first ∷ more) all (suc i) = digits_ascii more (tells_all_ascii_digits.parts first more all).1 i

-- digits are a text
pub digits_text : (digits : List ℕ) → all_ascii_digits digits ≡ true → IsUtf8 digits
digits_text digits all = IsUtf8-from_ascii digits (digits_ascii digits all)

own : IsNumeralModel (λ digits. all_ascii_digits digits ≡ true) (digits_value 10)
own = numerals_by_value (λ digits. all_ascii_digits digits ≡ true) tells_all_ascii_digits

-- whether they spell a number of 64 bits
abbrev is_short : List ℕ → Bool
is_short digits = nat_lt 0 (length digits) && (all_ascii_digits digits && nat_lt (digits_value 10 digits) (2 ^ 64))

abbrev number_where : Bool → List ℕ → Option ℕ
number_where short digits = if short then Some (digits_value 10 digits) else None

-- what is parsed of digits is what they spell
pub parsed_spelled : {E : Type 0} (digits : List ℕ) (result : Result ℕ E) → all_ascii_digits digits ≡ true → ParsesUnsigned 64 10 digits result → result_ok result ≡ spelled digits
parsed_spelled digits result all parses = go result (is_short digits) refl (parse_digits own 64 digits result parses all)
  where
    short_is : is_short digits ≡ true → (0 < length digits) × (digits_value 10 digits < 2 ^ 64)
    short_is is =
        let some = and_parts (nat_lt 0 (length digits)) (all_ascii_digits digits && nat_lt (digits_value 10 digits) (2 ^ 64)) is in
        (ltb-true 0 (length digits) some.0, ltb-true (digits_value 10 digits) (2 ^ 64) (and_parts (all_ascii_digits digits) (nat_lt (digits_value 10 digits) (2 ^ 64)) some.1).1)

    is_short-so : (0 < length digits) × (digits_value 10 digits < 2 ^ 64) → is_short digits ≡ true
    is_short-so both = and_from (nat_lt 0 (length digits)) (all_ascii_digits digits && nat_lt (digits_value 10 digits) (2 ^ 64)) (lt-ltb 0 (length digits) both.0)
        (and_from (all_ascii_digits digits) (nat_lt (digits_value 10 digits) (2 ^ 64)) all (lt-ltb (digits_value 10 digits) (2 ^ 64) both.1))

    go : {E : Type 0} (result : Result ℕ E) (short : Bool) → is_short digits ≡ short → OkIff result ((0 < length digits) × (digits_value 10 digits < 2 ^ 64)) (digits_value 10 digits) → result_ok result ≡ spelled digits
    go (Ok number) short is fits = ap (λ n. Some n) fits.1 ∙ ap (λ so. number_where so digits) (sym (is_short-so fits.0))
    go (Err fault) true is never = absurd (never (short_is is))
    go (Err fault) false is never = ap (λ so. number_where so digits) (sym is)
