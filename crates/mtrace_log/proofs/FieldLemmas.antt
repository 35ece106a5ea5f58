-- The fields of a line: what bytes they lack, and that they tell their values.
use Rattle.std.proofs.Common.{◌≡◌, ◌≢◌, ℕ, zero, suc, ◌<◌, ◌≤◌, List, [], ◌∷◌, length, map, get_or, drop, Option, Some, None, refl, ap, ◌∙◌, arith}
use Rattle.std.specs.Char.{digit_char}
use Rattle.std.specs.Int.Digits.{digits_of, AllBelowBase}
use Rattle.std.specs.List.{AllByRecursion}
use Rattle.std.proofs.lemmas.Bool.Decides.{nat_tests}
use Rattle.std.proofs.lemmas.Int.Digits.{all_below_base_digits_of, same_from_digits_of}
use Rattle.mtrace_log.specs.Bytes.{Lacks}
use Rattle.mtrace_log.specs.Address.{hex_digits, address_text, size_text, pointer_text}
use Rattle.mtrace_log.specs.Location.{IsLocationByte}

-- ---- bytes that the fields lack

-- no digit is below `0`
pub digit_char-other : (b d : ℕ) → b < 48 → digit_char d ≢ b
digit_char-other b d small = grind (arith, nat_tests)

map-lacks : (b : ℕ) (ds : List ℕ) → b < 48 → Lacks b (map digit_char ds)
map-lacks b [] small = tt
map-lacks b (d ∷ ds) small = (digit_char-other b d small, map-lacks b ds small)

pub Lacks-address_text : (b n : ℕ) → b < 48 → Lacks b (address_text n)
Lacks-address_text b n small = (λ e. absurd (omega arith), (λ e. absurd (omega arith), map-lacks b (digits_of 16 n) small))

pub Lacks-pointer_text : (b : ℕ) (pointer : Option ℕ) → b < 40 → Lacks b (pointer_text pointer)
Lacks-pointer_text b None small = (λ e. absurd (omega arith), (λ e. absurd (omega arith), (λ e. absurd (omega arith), (λ e. absurd (omega arith), (λ e. absurd (omega arith), tt)))))
Lacks-pointer_text b (Some n) small = Lacks-address_text b n (omega arith)

pub Lacks-size_text : (b n : ℕ) → b < 48 → Lacks b (size_text n)
Lacks-size_text b zero small = (λ e. absurd (omega arith), tt)
Lacks-size_text b (suc n) small = Lacks-address_text b (suc n) small

-- a location lacks each byte up to the space
pub Lacks-location : (b : ℕ) (bytes : List ℕ) → b ≤ 32 → AllByRecursion IsLocationByte bytes → Lacks b bytes
Lacks-location b [] small allowed = tt
Lacks-location b (c ∷ bytes) small allowed = (λ e. absurd (omega (arith, allowed.0.0)), Lacks-location b bytes small allowed.1)

-- ---- fields tell their values

digit_char-same : (d e : ℕ) → d < 16 → e < 16 → digit_char d ≡ digit_char e → d ≡ e
digit_char-same d e small_d small_e same = grind (arith, nat_tests)

map-same : (ds es : List ℕ) → AllBelowBase 16 ds → AllBelowBase 16 es → map digit_char ds ≡ map digit_char es → ds ≡ es
map-same [] [] below_ds below_es same = refl
map-same [] (e ∷ es) below_ds below_es same = let lengths : ◌≡◌ {A = ℕ} 0 (suc (length (map digit_char es))) = ap length same in absurd (omega arith)
map-same (d ∷ ds) [] below_ds below_es same = let lengths : suc (length (map digit_char ds)) ≡ 0 = ap length same in absurd (omega arith)
map-same (d ∷ ds) (e ∷ es) below_ds below_es same =
    let heads : digit_char d ≡ digit_char e = cc in
    let tails : map digit_char ds ≡ map digit_char es = cc in
    ap (λ h. h ∷ ds) (digit_char-same d e below_ds.0 below_es.0 heads) ∙ ap (λ t. e ∷ t) (map-same ds es below_ds.1 below_es.1 tails)

pub address_text-same : (m n : ℕ) → address_text m ≡ address_text n → m ≡ n
address_text-same m n same =
    let digits : hex_digits m ≡ hex_digits n = ap (drop 2) same in
    same_from_digits_of 16 m n (omega arith)
    (map-same (digits_of 16 m) (digits_of 16 n) (all_below_base_digits_of 16 m (omega arith)) (all_below_base_digits_of 16 n (omega arith)) digits)

pub pointer_text-same : (p q : Option ℕ) → pointer_text p ≡ pointer_text q → p ≡ q
pointer_text-same None None same = refl
pointer_text-same None (Some n) same = let first : ◌≡◌ {A = ℕ} 40 48 = ap (λ text. get_or text 0 0) same in absurd (omega arith)
pointer_text-same (Some m) None same = let first : ◌≡◌ {A = ℕ} 48 40 = ap (λ text. get_or text 0 0) same in absurd (omega arith)
pointer_text-same (Some m) (Some n) same = ap (λ k. Some k) (address_text-same m n same)

pub size_text-same : (m n : ℕ) → size_text m ≡ size_text n → m ≡ n
size_text-same zero zero same = refl
size_text-same zero (suc n) same = let lengths : ◌≡◌ {A = ℕ} 1 (suc (suc (length (hex_digits (suc n))))) = ap length same in absurd (omega arith)
size_text-same (suc m) zero same = let lengths : suc (suc (length (hex_digits (suc m)))) ≡ 1 = ap length same in absurd (omega arith)
size_text-same (suc m) (suc n) same = address_text-same (suc m) (suc n) same

-- a size above 0 is spelled as an address
pub size_text-above : (n : ℕ) → 0 < n → size_text n ≡ address_text n
size_text-above zero positive = absurd (omega arith)
size_text-above (suc n) positive = refl
