-- Digits in base 16: one more digit, how many there are, and what they can be.
use Rattle.std.proofs.Common.{◌≡◌, ◌≢◌, ℕ, zero, suc, ◌+◌, ◌*◌, ◌/◌, ◌%◌, ◌^◌, ◌<◌, ◌≤◌, ◌-◌, List, [], ◌∷◌, ◌++◌, length, map, get_or, take, drop, refl, sym, ap, ◌∙◌, subst, arith, lt_of_lt_of_le, length-append, inl, inr}
use Rattle.std.proofs.Math.Nat.{pow-le-pow_right}
use Rattle.std.proofs.lemmas.List.{take_more, length-take-le, take-append-drop, take_rest, get_or_append_left, map-append}
use Rattle.std.specs.Char.{digit_char}
use Rattle.std.specs.Int.Digits.{digits_of, AllBelowBase}
use Rattle.std.specs.List.{AllByRecursion}
use Rattle.std.proofs.lemmas.Bool.{cases_lt}
use Rattle.std.proofs.lemmas.Bool.Decides.{nat_tests}
use Rattle.std.proofs.lemmas.Int.Digits.{digits_of_step, length-digits_of-le, all_below_base_digits_of, first_digits_of, number_digits_of, number_lt}
use Rattle.mtrace_log.specs.Bytes.{space}
use Rattle.mtrace_log.specs.Address.{hex_digits}
use Rattle.mtrace_log.specs.Fields.{EndsField}
use Rattle.mtrace_log.proofs.FieldLemmas.{digit_char-other, address_text-same}

-- a byte that writes a digit
abbrev pub IsHexByte : ℕ → Type 0
IsHexByte b = (d : ℕ) × (d < 16) × (b ≡ digit_char d)

-- the last digit is the remainder
pub hex_digits-step : (n : ℕ) → 0 < n → hex_digits n ≡ hex_digits (n / 16) ++ digit_char (n % 16) ∷ []
hex_digits-step n positive =
    ap (map digit_char) (digits_of_step 16 n (omega arith) positive) ∙ map-append digit_char (digits_of 16 (n / 16)) ((n % 16) ∷ [])

-- one more digit at the end
pub hex_digits-push : (n d : ℕ) → d < 16 → 0 < n * 16 + d → hex_digits (n * 16 + d) ≡ hex_digits n ++ digit_char d ∷ []
hex_digits-push n d small positive =
    let quotient : (n * 16 + d) / 16 ≡ n = omega arith in
    let remainder : (n * 16 + d) % 16 ≡ d = omega arith in
    hex_digits-step (n * 16 + d) positive ∙ ap (λ q. hex_digits q ++ digit_char ((n * 16 + d) % 16) ∷ []) quotient
    ∙ ap (λ r. hex_digits n ++ digit_char r ∷ []) remainder

length-map : (xs : List ℕ) → length (map digit_char xs) ≡ length xs
length-map [] = refl
length-map (x ∷ xs) = ap suc (length-map xs)

pub length-hex_digits : (n : ℕ) → length (hex_digits n) ≡ length (digits_of 16 n)
length-hex_digits n = length-map (digits_of 16 n)

-- a number of 64 bits has at most 16 digits
pub length-hex_digits-le : (n : ℕ) → n < 2 ^ 64 → length (hex_digits n) ≤ 16
length-hex_digits-le n fits =
    let digits : length (digits_of 16 n) ≤ 16 = length-digits_of-le 16 16 n (omega arith) fits in
    omega (arith, length-hex_digits n)

-- a number above 0 has some
pub length-hex_digits-pos : (n : ℕ) → 0 < n → 0 < length (hex_digits n)
length-hex_digits-pos n positive =
    let step = ap length (hex_digits-step n positive) in
    omega (arith, simp length-append at step)

-- as many digits as it has bound the number
pub hex_digits-bound : (n k : ℕ) → length (hex_digits n) ≤ k → n < 16 ^ k
hex_digits-bound n k short =
    let within : n < 16 ^ length (digits_of 16 n) = subst (λ m. m < 16 ^ length (digits_of 16 n)) (number_digits_of 16 n (omega arith)) (number_lt 16 (digits_of 16 n) (all_below_base_digits_of 16 n (omega arith))) in
    let fewer : length (digits_of 16 n) ≤ k = omega (arith, length-hex_digits n) in
    lt_of_lt_of_le within (pow-le-pow_right (omega arith) fewer)

-- each of them is a byte that writes a digit
map-IsHexByte : (ds : List ℕ) → AllBelowBase 16 ds → AllByRecursion IsHexByte (map digit_char ds)
map-IsHexByte [] below = tt
map-IsHexByte (d ∷ ds) below = ((d, below.0, refl), map-IsHexByte ds below.1)

pub hex_digits-IsHexByte : (n : ℕ) → AllByRecursion IsHexByte (hex_digits n)
hex_digits-IsHexByte n = map-IsHexByte (digits_of 16 n) (all_below_base_digits_of 16 n (omega arith))

-- what holds of each element holds at each index
pub AllByRecursion-at : (P : ℕ → Type 0) (xs : List ℕ) (i : ℕ) → i < length xs → AllByRecursion P xs → P (get_or xs i 0)
AllByRecursion-at P [] i within all = absurd (omega arith)
AllByRecursion-at P (x ∷ xs) zero within all = all.0
AllByRecursion-at P (x ∷ xs) (suc i) within all = AllByRecursion-at P xs i (omega arith) all.1

-- the first digit of a number above 0 isn't `0`
map-first : (ds : List ℕ) → AllBelowBase 16 ds → 0 < get_or ds 0 0 → get_or (map digit_char ds) 0 0 ≢ 48
map-first [] below first = absurd (omega arith)
map-first (d ∷ ds) below first = grind (arith, nat_tests)

pub hex_digits-first : (n : ℕ) → 0 < n → get_or (hex_digits n) 0 0 ≢ 48
hex_digits-first n positive = map-first (digits_of 16 n) (all_below_base_digits_of 16 n (omega arith)) (first_digits_of 16 n (omega arith) positive)

-- ---- digits at the front

-- no digit is a space
IsHexByte-other : (b : ℕ) → IsHexByte b → b ≢ space
IsHexByte-other b (d, small, is) same = digit_char-other space d (omega arith) (sym is ∙ same)

-- the digits that a field ends behind are the same, however many other bytes are read as digits
digits-same : (xs ys front back : List ℕ) → AllByRecursion IsHexByte xs → EndsField back → length ys ≤ length xs → xs ++ front ≡ ys ++ back → (xs ≡ ys) × (front ≡ back)
digits-same [] [] front back all ends short same = (refl, same)
digits-same [] (y ∷ ys) front back all ends short same = absurd (omega arith)
digits-same (x ∷ xs) [] front [] all ends short same = let lengths : suc (length (xs ++ front)) ≡ 0 = ap length same in absurd (omega arith)
digits-same (x ∷ xs) [] front (b ∷ back) all ends short same = let heads : x ≡ b = cc in absurd (IsHexByte-other x all.0 (heads ∙ ends))
digits-same (x ∷ xs) (y ∷ ys) front back all ends short same =
    let tails : xs ++ front ≡ ys ++ back = cc in
    let heads : x ≡ y = cc in
    let found = digits-same xs ys front back all.1 ends (omega arith) tails in
    (ap (λ h. h ∷ xs) heads ∙ ap (λ t. y ∷ t) found.0, found.1)

above : (k : ℕ) → k ≢ 0 → 0 < k
above k other = omega arith

-- ---- a loop over digits, which has read those below i

module _ (bytes : List ℕ) (i number : ℕ) (within : i ≤ length bytes) (so_far : take i bytes ≡ hex_digits number) where
  digits_read : length (hex_digits number) ≡ i
  digits_read = ap length (sym so_far) ∙ length-take-le i bytes within

  -- one more digit fits
  pub read_digits-fits : (d : ℕ) → i < 16 → d < 16 → number * 16 + d < 2 ^ 64
  read_digits-fits d short small =
      let bound : number < 16 ^ 15 = hex_digits-bound number 15 (omega (arith, digits_read)) in
      let numeral : 16 ^ 15 ≡ 1152921504606846976 = refl in
      omega arith

  -- one more digit is read, where the first isn't `0`
  pub read_digits-more : (d : ℕ) → i < length bytes → d < 16 → get_or bytes i 0 ≡ digit_char d → get_or bytes 0 0 ≢ 48 → take (i + 1) bytes ≡ hex_digits (number * 16 + d)
  read_digits-more d more small byte first =
      take_more bytes i 0 more ∙ ap (λ front. front ++ get_or bytes i 0 ∷ []) so_far ∙ ap (λ b. hex_digits number ++ b ∷ []) byte
      ∙ sym (hex_digits-push number d small (above (number * 16 + d) (λ none.
      let no_number : number ≡ 0 = omega arith in
      let no_digit : d ≡ 0 = omega arith in
      let start : i ≡ 0 = sym digits_read ∙ ap (λ m. length (hex_digits m)) no_number in
      first (ap (λ k. get_or bytes k 0) (sym start) ∙ byte ∙ ap digit_char no_digit))))

  -- an address with no more digits has just these
  pub read_digits-only : (n : ℕ) (rest : List ℕ) → EndsField rest → bytes ≡ hex_digits n ++ rest → length (hex_digits n) ≤ i → (n ≡ number) × (rest ≡ take (length bytes - i) (drop i bytes))
  read_digits-only n rest ends same short =
      let cut : hex_digits number ++ drop i bytes ≡ hex_digits n ++ rest = ap (λ front. front ++ drop i bytes) (sym so_far) ∙ take-append-drop i bytes ∙ same in
      let parts = digits-same (hex_digits number) (hex_digits n) (drop i bytes) rest (hex_digits-IsHexByte number) ends (omega (arith, digits_read)) cut in
      (address_text-same n number (ap (λ digits. 48 ∷ 120 ∷ digits) (sym parts.0)), sym parts.1 ∙ sym (take_rest bytes i))

-- where a byte is no digit, an address has no more digits
pub digits-end : (bytes rest : List ℕ) (i n : ℕ) → ((e : ℕ) → e < 16 → get_or bytes i 0 ≢ digit_char e) → bytes ≡ hex_digits n ++ rest → length (hex_digits n) ≤ i
digits-end bytes rest i n other same = elim (cases_lt i (length (hex_digits n))) [
  | inl more ↦ absurd (
      let found = AllByRecursion-at IsHexByte (hex_digits n) i more (hex_digits-IsHexByte n) in
      other found.0 found.1 (ap (λ text. get_or text i 0) same ∙ get_or_append_left (hex_digits n) rest 0 i more ∙ found.2))
  | inr short ↦ short
]

-- an address doesn't begin with the digit `0`
pub digits-first : (bytes rest : List ℕ) (n : ℕ) → 0 < n → bytes ≡ hex_digits n ++ rest → get_or bytes 0 0 ≢ 48
digits-first bytes rest n positive same zero_byte =
    hex_digits-first n positive (sym (ap (λ text. get_or text 0 0) same ∙ get_or_append_left (hex_digits n) rest 0 0 (length-hex_digits-pos n positive)) ∙ zero_byte)
