-- Digits in base 16, sixteen lanes at a time: what each lane holds, how many write digits, and the number of these.
use Rattle.std.proofs.Common.{◌≡◌, ◌≢◌, ℕ, zero, suc, ◌+◌, ◌-◌, ◌*◌, ◌/◌, ◌%◌, ◌^◌, ◌<◌, ◌≤◌, List, [], ◌∷◌, length, map, get_or, take, replicate, Bool, true, false, not, cond, ltb, eqb, ◌==◌, ◌&&◌, refl, sym, ap, ◌∙◌, arith, inl, inr}
use Rattle.std.specs.Char.{digit_char}
use Rattle.std.specs.List.{prefix_len}
use lib.Count.{count_trailing_zeros}
use Rattle.std.specs.Simd.Lanes.{Each1, zip2, sel_l, mask_l, top, chunk}
use Rattle.std.specs.Int.Bits.{mask_lt}
use Rattle.std.proofs.lemmas.Bool.Decides.{nat_tests}
use Rattle.std.proofs.lemmas.Bool.{cond-true, cond-false, eq-eqb, ne_eqb, eqb-true, not-true, not-false, false≢true, and_parts, cases_eq}
use Rattle.std.proofs.lemmas.List.{length-map, get_or-map}
use Rattle.std.proofs.lemmas.Nat.{pow-add, div-mul-add}
use Rattle.std.proofs.Math.Nat.{div-div-eq-div-mul, div-one}
use Rattle.std.proofs.lemmas.Simd.{mask_l-mod, first_set_mask_l, map-map, run_in_chunk_le, run_in_chunk_fails, run_in_chunk_stops, get_or-chunk, length-chunk}
use Rattle.mtrace_log.specs.Address.{hex_digits}
use Rattle.mtrace_log.specs.Sixteen.{offset, lane_digit, lane_byte, is_other, value}
use Rattle.mtrace_log.proofs.HexLemmas.{read_digits-more}

-- ---- lane by lane

chosen-head : (b : Bool) → ◌≡◌ {A = ℕ} (cond (top 7 (cond b 255 0)) 87 48) (cond b 87 48)
chosen-head true = refl
chosen-head false = refl

-- a choice by a bound
pub chosen : (lanes : List ℕ) (n bound : ℕ) → length lanes ≡ n
    → ◌≡◌ {A = List ℕ} (sel_l (map (top 7) (zip2 (λ a b. cond (ltb a b) 255 0) (replicate n bound) lanes)) (replicate n 87) (replicate n 48)) (map (offset bound) lanes)
chosen [] zero bound long = refl
chosen [] (suc n) bound long = absurd (omega (arith, long))
chosen (x ∷ lanes) zero bound long = absurd (omega (arith, long))
chosen (x ∷ lanes) (suc n) bound long =
    ap (λ h. h ∷ sel_l (map (top 7) (zip2 (λ a b. cond (ltb a b) 255 0) (replicate n bound) lanes)) (replicate n 87) (replicate n 48)) (chosen-head (ltb bound x))
    ∙ ap (λ t. offset bound x ∷ t) (chosen lanes n bound (omega (arith, long)))

-- an operator on a vector and one that was made of it
pub zip2-own : (f : ℕ → ℕ → ℕ) (g : ℕ → ℕ) (xs : List ℕ) → zip2 f xs (map g xs) ≡ map (λ x. f x (g x)) xs
zip2-own f g [] = refl
zip2-own f g (x ∷ xs) = ap (λ t. f x (g x) ∷ t) (zip2-own f g xs)

-- ---- how many lanes write digits

top-set : (b : Bool) → top 7 (cond b 255 0) ≡ b
top-set true = refl
top-set false = refl

others : (h : ℕ → ℕ) (xs : List ℕ) → map (top 7) (zip2 (λ a b. cond (not (eqb a b)) 255 0) (map h xs) xs) ≡ map (λ x. not (eqb (h x) x)) xs
others h [] = refl
others h (x ∷ xs) = ap (λ b. b ∷ map (top 7) (zip2 (λ a b. cond (not (eqb a b)) 255 0) (map h xs) xs)) (top-set (not (eqb (h x) x))) ∙ ap (λ t. not (eqb (h x) x) ∷ t) (others h xs)

-- the mask of the lanes that differ
abbrev pub mask_of : List ℕ → List ℕ → ℕ
mask_of written lanes = mask_l (map (top 7) (zip2 (λ a b. cond (not (eqb a b)) 255 0) written lanes)) % 2 ^ 64

mask-others : (lanes digits written : List ℕ) → length lanes ≡ 16 → digits ≡ map lane_digit lanes → written ≡ map lane_byte digits → mask_of written lanes ≡ mask_l (map is_other lanes)
mask-others lanes digits written long are wrote =
    let h : ℕ → ℕ = λ byte. lane_byte (lane_digit byte) in
    let twice : written ≡ map h lanes = wrote ∙ ap (map lane_byte) are ∙ map-map lane_byte lane_digit lanes in
    let few : length (map is_other lanes) ≤ 64 = omega (arith, length-map lanes is_other, long) in
    ap (λ made. mask_of made lanes) twice ∙ ap (λ ms. mask_l ms % 2 ^ 64) (others h lanes) ∙ mask_l-mod (map is_other lanes) 64 few

-- how many lanes write digits, where all do and where one doesn't
pub counted-all : (lanes digits written : List ℕ) → length lanes ≡ 16 → digits ≡ map lane_digit lanes → written ≡ map lane_byte digits → mask_of written lanes ≡ 0
    → 16 ≡ prefix_len (λ byte. not (is_other byte)) lanes
counted-all lanes digits written long are wrote none =
    let zero_mask : mask_l (map is_other lanes) ≡ 0 = sym (mask-others lanes digits written long are wrote) ∙ none in
    sym (cond-true _ _ _ (eq-eqb (mask_l (map is_other lanes)) 0 zero_mask)) ∙ first_set_mask_l is_other lanes 16 long (omega arith)

pub counted-some : (lanes digits written : List ℕ) → length lanes ≡ 16 → digits ≡ map lane_digit lanes → written ≡ map lane_byte digits → mask_of written lanes ≢ 0
    → count_trailing_zeros 64 (mask_of written lanes) ≡ prefix_len (λ byte. not (is_other byte)) lanes
counted-some lanes digits written long are wrote some =
    let same = mask-others lanes digits written long are wrote in
    ap (λ n. count_trailing_zeros 64 n) same ∙ sym (cond-false _ _ _ (ne_eqb (mask_l (map is_other lanes)) 0 (λ none. some (same ∙ none)))) ∙ first_set_mask_l is_other lanes 16 long (omega arith)

-- ---- what a lane writes

digit-below : (byte : ℕ) → lane_digit byte < 16
digit-below byte = mask_lt ((byte + (2 ^ 8 - offset 57 byte)) % 2 ^ 8) 4

-- each lane's digit is one
pub digits-below : (bytes : List ℕ) → Each1 (λ digit. digit < 16) (map lane_digit bytes)
digits-below [] = tt
digits-below (b ∷ bytes) = (digit-below b, digits-below bytes)

written : (digit : ℕ) → digit < 16 → lane_byte digit ≡ digit_char digit
written digit small = grind (arith, nat_tests)

-- a byte that is no other one writes the digit that is read of it
writes : (byte : ℕ) → is_other byte ≡ false → byte ≡ digit_char (lane_digit byte)
writes byte same = sym (eqb-true (lane_byte (lane_digit byte)) byte (not-false (lane_byte (lane_digit byte) == byte) same)) ∙ written (lane_digit byte) (digit-below byte)

none_other : ℕ → Bool
none_other zero = true
none_other (suc n) = not (is_other (digit_char n)) && none_other n

none-at : (n k : ℕ) → none_other n ≡ true → k < n → is_other (digit_char k) ≡ false
unfolding none_other
none-at zero k none below = absurd (omega arith)
none-at (suc n) k none below =
    let parts = and_parts (not (is_other (digit_char n))) (none_other n) none in
    elim (cases_eq k n) [ inl same ↦ rw same (not-true (is_other (digit_char n)) parts.0) | inr other ↦ none-at n k parts.1 (omega arith) ]

-- a byte that writes a digit is no other one
not-other : (byte digit : ℕ) → digit < 16 → byte ≡ digit_char digit → is_other byte ≡ false
unfolding none_other
not-other byte digit small same = ap is_other same ∙ none-at 16 digit refl small

-- ---- the number of the first digits

value-cut : (digits : List ℕ) → ((j : ℕ) → get_or digits j 0 < 16) → (m k : ℕ) → value digits (k + m) / 2 ^ (4 * m) ≡ value digits k
value-cut digits below zero k = ap (λ n. value digits n / 2 ^ (4 * 0)) (omega arith) ∙ div-one (value digits k)
value-cut digits below (suc m) k =
    let more : k + suc m ≡ suc (k + m) = omega arith in
    let power : 2 ^ (4 * suc m) ≡ 16 * 2 ^ (4 * m) = ap (λ n. 2 ^ n) (omega arith) ∙ pow-add 2 4 (4 * m) in
    ap (λ n. value digits n / 2 ^ (4 * suc m)) more ∙ ap (λ n. value digits (suc (k + m)) / n) power ∙ sym (div-div-eq-div-mul (value digits (suc (k + m))) 16 (2 ^ (4 * m)))
    ∙ ap (λ n. n / 2 ^ (4 * m)) (div-mul-add (value digits (k + m)) 16 (get_or digits (k + m) 0) (below (k + m))) ∙ value-cut digits below m k

digit-at : (bytes : List ℕ) (j : ℕ) → get_or (map lane_digit bytes) j 0 < 16
digit-at [] j = omega arith
digit-at (b ∷ bytes) zero = digit-below b
digit-at (b ∷ bytes) (suc j) = digit-at bytes j

-- ---- the digits at the front

module _ (bytes : List ℕ) (room : 16 ≤ length bytes) (count : ℕ) (counted : count ≡ prefix_len (λ byte. not (is_other byte)) (chunk 0 16 bytes)) where
  lane-at : (k : ℕ) → k < 16 → get_or (map lane_digit (chunk 0 16 bytes)) k 0 ≡ lane_digit (get_or bytes k 0)
  lane-at k small =
      get_or-map lane_digit (chunk 0 16 bytes) k 0 0 (omega (arith, small, length-chunk 0 16 bytes room))
      ∙ ap lane_digit (get_or-chunk 0 16 bytes k 0 small ∙ ap (λ n. get_or bytes n 0) (omega arith))

  pub sixteen-most : count ≤ 16
  sixteen-most = run_in_chunk_le is_other bytes 0 16 count 0 room counted

  -- the first `n` bytes write the number of the first `n` digits
  front : get_or bytes 0 0 ≢ 48 → (k : ℕ) → k ≤ count → take k bytes ≡ hex_digits (value (map lane_digit (chunk 0 16 bytes)) k)
  front first zero within = refl
  front first (suc k) within =
      let lanes = map lane_digit (chunk 0 16 bytes) in
      let small : k < 16 = omega (arith, sixteen-most, within) in
      let next : suc k ≡ k + 1 = omega arith in
      let same = lane-at k small in
      let byte : get_or bytes k 0 ≡ digit_char (get_or lanes k 0) = writes (get_or bytes k 0) (run_in_chunk_fails is_other bytes 0 16 count 0 room counted k (omega arith) (omega (arith, within))) ∙ ap digit_char (sym same) in
      ap (λ n. take n bytes) next
      ∙ read_digits-more bytes k (value lanes k) (omega (arith, room, small)) (front first k (omega (arith, within))) (get_or lanes k 0) (omega (arith, room, small)) (digit-at (chunk 0 16 bytes) k) byte first

  -- their number is the one of all sixteen, cut off behind them
  pub sixteen-digits : get_or bytes 0 0 ≢ 48 → (number : ℕ) → number ≡ value (map lane_digit (chunk 0 16 bytes)) 16 → take count bytes ≡ hex_digits (number / 2 ^ (64 - 4 * count))
  sixteen-digits first number is =
      let lanes = map lane_digit (chunk 0 16 bytes) in
      let parts : 16 ≡ count + (16 - count) = omega (arith, sixteen-most) in
      let power : 64 - 4 * count ≡ 4 * (16 - count) = omega (arith, sixteen-most) in
      let cut : number / 2 ^ (64 - 4 * count) ≡ value lanes count =
      ap (λ n. n / 2 ^ (64 - 4 * count)) (is ∙ ap (value lanes) parts) ∙ ap (λ n. value lanes (count + (16 - count)) / 2 ^ n) power ∙ value-cut lanes (digit-at (chunk 0 16 bytes)) (16 - count) count in
      front first count (omega arith) ∙ ap hex_digits (sym cut)

  -- the byte behind them writes none
  pub sixteen-ended : count < 16 → (d : ℕ) → d < 16 → get_or bytes count 0 ≢ digit_char d
  sixteen-ended fewer d small same =
      let at : get_or bytes (0 + count) 0 ≡ get_or bytes count 0 = ap (λ n. get_or bytes n 0) (omega arith) in
      false≢true (sym (not-other (get_or bytes (0 + count) 0) d small (at ∙ same)) ∙ run_in_chunk_stops is_other bytes 0 16 count 0 room counted fewer)
