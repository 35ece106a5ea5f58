-- The bytes of a location: where they end, and how 16 at a time are counted.
use Rattle.std.proofs.Common.{◌≡◌, ◌≢◌, ℕ, zero, suc, ◌+◌, ◌-◌, ◌^◌, ◌%◌, ◌<◌, ◌≤◌, List, [], ◌∷◌, ◌++◌, length, map, get_or, take, drop, replicate, Bool, true, false, not, ◌||◌, cond, leb, eqb, bit_or, w64, refl, sym, ap, subst, ◌∙◌, arith, inl, inr, length-append}
use Rattle.std.specs.Int.{bit_at, trailing_zeros}
use Rattle.std.specs.List.{AllByRecursion, prefix_len}
use Rattle.std.specs.Simd.Lanes.{mask_l, chunk, top, zip2}
use Rattle.std.proofs.lemmas.Bool.{cases_lt, cases_order}
use Rattle.std.proofs.lemmas.Bool.Decides.{nat_tests}
use Rattle.std.proofs.lemmas.List.{length-map, length-take, get_or_past, get_or_append_left, take_rest, take_all}
use Rattle.std.proofs.lemmas.Nat.Bits.{bit_at-trailing_zeros}
use Rattle.std.proofs.lemmas.Simd.{bit_mask_l, mask_l-lt, mask_l-mod, leading_from_mask_l, trailing_mask_l, run_in_chunk_fails, run_in_chunk_stops}
use Rattle.std.proofs.Math.Seq.{drop-append_seam, get_or-append_seam}
use Rattle.mtrace_log.specs.Bytes.{space}
use Rattle.mtrace_log.specs.Location.{IsLocationByte, is_blank}
use Rattle.mtrace_log.proofs.HexLemmas.{AllByRecursion-at}

-- ---- sixteen lanes at a time

both-tops : (p q : Bool) → top 7 (bit_or (cond p 255 0) (cond q 255 0)) ≡ (p || q)
both-tops true true = refl
both-tops true false = refl
both-tops false true = refl
both-tops false false = refl

-- the mask of the lanes that are blank
abbrev pub mask_of : List ℕ → ℕ → ℕ
mask_of lanes n = mask_l (map (top 7) (zip2 bit_or (zip2 (λ a b. cond (leb a b) 255 0) lanes (replicate n 32)) (zip2 (λ a b. cond (eqb a b) 255 0) lanes (replicate n 127)))) % 2 ^ 64

blanks : (lanes : List ℕ) (n : ℕ) → length lanes ≡ n
    → map (top 7) (zip2 bit_or (zip2 (λ a b. cond (leb a b) 255 0) lanes (replicate n 32)) (zip2 (λ a b. cond (eqb a b) 255 0) lanes (replicate n 127))) ≡ map is_blank lanes
blanks [] zero long = refl
blanks [] (suc n) long = absurd (omega (arith, long))
blanks (x ∷ lanes) zero long = absurd (omega (arith, long))
blanks (x ∷ lanes) (suc n) long =
    ap (λ b. b ∷ map (top 7) (zip2 bit_or (zip2 (λ a b. cond (leb a b) 255 0) lanes (replicate n 32)) (zip2 (λ a b. cond (eqb a b) 255 0) lanes (replicate n 127)))) (both-tops (leb x 32) (eqb x 127))
    ∙ ap (λ bs. is_blank x ∷ bs) (blanks lanes n (omega (arith, long)))

mask-is : (lanes : List ℕ) → length lanes ≡ 16 → mask_of lanes 16 ≡ mask_l (map is_blank lanes)
mask-is lanes long = ap (λ bits. mask_l bits % 2 ^ 64) (blanks lanes 16 long) ∙ mask_l-mod (map is_blank lanes) 64 (omega (arith, length-map lanes is_blank, long))

-- a bit that is set is that of a lane
bit-within : (bits : List Bool) (lane n : ℕ) → length bits ≡ n → bit_at (mask_l bits) lane ≡ 1 → lane < n
bit-within bits lane n many set = elim (cases_lt lane n) [
  | inl fewer ↦ fewer
  | inr more ↦
      let past : get_or bits lane false ≡ false = get_or_past bits lane false (omega (arith, more, many)) in
      let none : bit_at (mask_l bits) lane ≡ 0 = bit_mask_l bits lane ∙ ap (λ b. cond b 1 0) past in
      absurd (omega (arith, none, set))
]

-- no lane is blank
pub lanes-none : (lanes : List ℕ) → length lanes ≡ 16 → mask_of lanes 16 ≡ 0 → 16 ≡ prefix_len (λ byte. not (is_blank byte)) lanes
lanes-none lanes long none = sym (leading_from_mask_l is_blank lanes (sym (mask-is lanes long) ∙ none) ∙ long)

-- some is, and this is the first
pub lanes-some : (lanes : List ℕ) → length lanes ≡ 16 → mask_of lanes 16 ≢ 0
    → let lane = trailing_zeros w64 (mask_of lanes 16) in (lane < 16) × (lane ≡ prefix_len (λ byte. not (is_blank byte)) lanes)
lanes-some lanes long some =
    let bits = map is_blank lanes in
    let many : length bits ≡ 16 = length-map lanes is_blank ∙ long in
    let mask = mask_of lanes 16 in
    let same : mask ≡ mask_l bits = mask-is lanes long in
    let below : mask_l bits < 2 ^ 16 = subst (λ l. mask_l bits < 2 ^ l) many (mask_l-lt bits) in
    let positive : 0 < mask = omega (arith, some) in
    let lowest = bit_at-trailing_zeros w64 mask positive (omega (arith, same, below)) in
    let lane = trailing_zeros w64 mask in
    let set : bit_at (mask_l bits) lane ≡ 1 = ap (λ m. bit_at m lane) (sym same) ∙ lowest.1 in
    (bit-within bits lane 16 many set, ap (λ m. trailing_zeros w64 m) same ∙ trailing_mask_l is_blank 64 lanes (omega (arith, long)) (omega (arith, same, positive)))

-- a byte is blank or can stand in a location
pub allowed-from : (byte : ℕ) → is_blank byte ≡ false → IsLocationByte byte
allowed-from byte other = (grind (arith, nat_tests), grind (arith, nat_tests))

pub blank-from : (byte : ℕ) → is_blank byte ≡ true → ¬ IsLocationByte byte
blank-from byte is allowed = grind (arith, nat_tests)

-- the sixteen bytes that were loaded
pub loaded : (bytes : List ℕ) (at : ℕ) → at + 16 ≤ length bytes → chunk 0 16 (take (at + 16 - at) (drop at bytes)) ≡ chunk at 16 bytes
loaded bytes at within =
    let sixteen : at + 16 - at ≡ 16 = omega arith in
    ap (λ n. take 16 (take n (drop at bytes))) sixteen ∙ take_all 16 (take 16 (drop at bytes)) (omega (arith, length-take 16 (drop at bytes)))

-- bytes that can stand in a location, and as many of the next sixteen as come before the first that can't
pub allowed-more : (bytes : List ℕ) (at count : ℕ) → at + 16 ≤ length bytes → ((k : ℕ) → k < at → IsLocationByte (get_or bytes k 0)) → count ≡ prefix_len (λ byte. not (is_blank byte)) (chunk at 16 bytes)
    → (k : ℕ) → k < at + count → IsLocationByte (get_or bytes k 0)
allowed-more bytes at count room before counted k within = elim (cases_lt k at) [
  | inl below ↦ before k below
  | inr behind ↦ allowed-from (get_or bytes k 0) (run_in_chunk_fails is_blank bytes at 16 count 0 room counted k behind within)
]

-- that one can't
pub ended-there : (bytes : List ℕ) (at count : ℕ) → at + 16 ≤ length bytes → count < 16 → count ≡ prefix_len (λ byte. not (is_blank byte)) (chunk at 16 bytes) → ¬ IsLocationByte (get_or bytes (at + count) 0)
ended-there bytes at count room fewer counted = blank-from (get_or bytes (at + count) 0) (run_in_chunk_stops is_blank bytes at 16 count 0 room counted fewer)

-- ---- where the bytes of a location end

-- what holds at each index of a front holds of its elements
pub AllByRecursion-take : (P : ℕ → Type 0) (bytes : List ℕ) (n : ℕ) → n ≤ length bytes → ((k : ℕ) → k < n → P (get_or bytes k 0)) → AllByRecursion P (take n bytes)
AllByRecursion-take P bytes zero within each = tt
AllByRecursion-take P [] (suc n) within each = absurd (omega arith)
AllByRecursion-take P (b ∷ bytes) (suc n) within each = (each 0 (omega arith), AllByRecursion-take P bytes n (omega arith) (λ k below. each (suc k) (omega arith)))

-- a location that a space follows has all bytes that can stand in one
pub location-end : (bytes location rest : List ℕ) (n : ℕ) → n ≤ length bytes → ((k : ℕ) → k < n → IsLocationByte (get_or bytes k 0)) → (n < length bytes → ¬ IsLocationByte (get_or bytes n 0))
    → AllByRecursion IsLocationByte location → bytes ≡ location ++ space ∷ rest → n ≡ length location
location-end bytes location rest n within each ended all same =
    let lengths : length bytes ≡ length location + suc (length rest) = ap length same ∙ length-append location (space ∷ rest) in
    elim (cases_order n (length location)) [
      | inl equal ↦ equal
      | inr other ↦ elim other [
        | inl less ↦ absurd (ended (omega arith) (rw (ap (λ text. get_or text n 0) same ∙ get_or_append_left location (space ∷ rest) 0 n less) (AllByRecursion-at IsLocationByte location n less all)))
        | inr more ↦ absurd (
            let byte : get_or bytes (length location) 0 ≡ space = ap (λ text. get_or text (length location) 0) same ∙ get_or-append_seam location space rest 0 in
            let allowed = each (length location) more in
            omega (arith, allowed.0))
      ]
    ]

-- the bytes are cut there
pub location-cut : (bytes location rest : List ℕ) (n : ℕ) → n ≡ length location → bytes ≡ location ++ space ∷ rest → take (length bytes - n) (drop n bytes) ≡ space ∷ rest
location-cut bytes location rest n end same =
    take_rest bytes n ∙ ap (λ m. drop m bytes) end ∙ ap (drop (length location)) same ∙ drop-append_seam location (space ∷ rest)
