-- Fields at the front of bytes: that there is one only, and what the numbers and the fields of a line have there.
use Rattle.std.proofs.Common.{◌≡◌, ◌≢◌, ℕ, zero, suc, List, [], ◌∷◌, ◌++◌, length, Option, Some, None, IfSome, codes, refl, sym, ap, ◌∙◌, subst, arith}
use Rattle.std.proofs.lemmas.List.{append-nil}
use Rattle.mtrace_log.specs.Bytes.{Lacks, space}
use Rattle.mtrace_log.specs.Address.{IsAddress, address_text, size_text, pointer_text}
use Rattle.mtrace_log.specs.Form.{Numbers, numbers_text, fields_text}
use Rattle.mtrace_log.specs.Fields.{EndsField, IsFront, HasNoFront, IsPointer, IsSize, AreNumbers}
use Rattle.mtrace_log.proofs.FieldLemmas.{Lacks-pointer_text, Lacks-size_text, pointer_text-same, size_text-same, size_text-above}

-- bytes without a space before the end of a field are cut there in one way
front-same : (xs ys front back : List ℕ) → Lacks space xs → Lacks space ys → EndsField front → EndsField back → xs ++ front ≡ ys ++ back → (xs ≡ ys) × (front ≡ back)
front-same [] [] front back lacks_xs lacks_ys ends ends_back same = (refl, same)
front-same [] (y ∷ ys) [] back lacks_xs lacks_ys ends ends_back same = let lengths : ◌≡◌ {A = ℕ} 0 (suc (length (ys ++ back))) = ap length same in absurd (omega arith)
front-same [] (y ∷ ys) (b ∷ front) back lacks_xs lacks_ys ends ends_back same = let heads : y ≡ b = cc in absurd (lacks_ys.0 (heads ∙ ends))
front-same (x ∷ xs) [] front [] lacks_xs lacks_ys ends ends_back same = let lengths : suc (length (xs ++ front)) ≡ 0 = ap length same in absurd (omega arith)
front-same (x ∷ xs) [] front (b ∷ back) lacks_xs lacks_ys ends ends_back same = let heads : x ≡ b = cc in absurd (lacks_xs.0 (heads ∙ ends_back))
front-same (x ∷ xs) (y ∷ ys) front back lacks_xs lacks_ys ends ends_back same =
    let tails : xs ++ front ≡ ys ++ back = cc in
    let heads : x ≡ y = cc in
    let found = front-same xs ys front back lacks_xs.1 lacks_ys.1 ends ends_back tails in
    (ap (λ h. h ∷ xs) heads ∙ ap (λ t. y ∷ t) found.0, found.1)

pub pointer-same : (bytes : List ℕ) (p q : Option ℕ) (rest last : List ℕ) → IsFront IsPointer pointer_text bytes p rest → IsFront IsPointer pointer_text bytes q last → (p ≡ q) × (rest ≡ last)
pointer-same bytes p q rest last first second =
    let parts = front-same (pointer_text p) (pointer_text q) rest last (Lacks-pointer_text space p (omega arith)) (Lacks-pointer_text space q (omega arith)) first.1 second.1 (sym first.2 ∙ second.2) in
    (pointer_text-same p q parts.0, parts.1)

pub size-same : (bytes : List ℕ) (m n : ℕ) (rest last : List ℕ) → IsFront IsSize size_text bytes m rest → IsFront IsSize size_text bytes n last → (m ≡ n) × (rest ≡ last)
size-same bytes m n rest last first second =
    let parts = front-same (size_text m) (size_text n) rest last (Lacks-size_text space m (omega arith)) (Lacks-size_text space n (omega arith)) first.1 second.1 (sym first.2 ∙ second.2) in
    (size_text-same m n parts.0, parts.1)

-- ---- one field

-- no size at the front, where there is no `0` and no address
pub size-none : (bytes : List ℕ) → ((rest : List ℕ) → EndsField rest → bytes ≢ codes "0" ++ rest) → HasNoFront IsAddress address_text bytes → HasNoFront IsSize size_text bytes
size-none bytes other none zero rest front = other rest front.1 front.2
size-none bytes other none (suc n) rest front = none (suc n) rest ((omega arith, front.0), front.1, front.2)

-- a size with nothing behind it
pub size-alone : (bytes : List ℕ) (size : ℕ) → IsSize size → bytes ≡ size_text size → IsFront IsSize size_text bytes size []
size-alone bytes size fits same = (fits, tt, same ∙ sym (append-nil (size_text size)))

-- ---- numbers

-- the number that numbers begin with, and what follows it
abbrev pub NumbersFrom : Numbers → ℕ → List ℕ → Type 0
NumbersFrom (None, size) first rest = (size ≡ first) × (rest ≡ [])
NumbersFrom (Some align, size) first rest = (align ≡ first) × (rest ≡ space ∷ size_text size)

pub numbers-front : (bytes : List ℕ) (numbers : Numbers) → AreNumbers numbers → bytes ≡ numbers_text numbers
    → (first : ℕ) × (rest : List ℕ) × IsFront IsSize size_text bytes first rest × NumbersFrom numbers first rest
numbers-front bytes (None, size) fit same = (size, [], size-alone bytes size fit same, (refl, refl))
numbers-front bytes (Some align, size) fit same =
    (align, space ∷ size_text size, (fit.0.1, refl, same ∙ ap (λ text. text ++ space ∷ size_text size) (sym (size_text-above align fit.0.0))), (refl, refl))

-- they begin with the number that was read, and with the rest that was left
pub numbers-cut : (bytes : List ℕ) (first : ℕ) (rest : List ℕ) (numbers : Numbers) → IsFront IsSize size_text bytes first rest → AreNumbers numbers → bytes ≡ numbers_text numbers → NumbersFrom numbers first rest
numbers-cut bytes first rest numbers front fit same =
    let (n, last, found, from) = numbers-front bytes numbers fit same in
    let parts = size-same bytes n first last rest found front in
    subst (λ r. NumbersFrom numbers first r) parts.1 (subst (λ m. NumbersFrom numbers m last) parts.0 from)

-- behind a space there is a size
pub numbers-behind : (numbers : Numbers) (first : ℕ) (behind : List ℕ) → AreNumbers numbers → NumbersFrom numbers first (space ∷ behind) → (size : ℕ) × IsSize size × (behind ≡ size_text size)
numbers-behind (None, size) first behind fit from = let none : space ∷ behind ≡ [] = from.1 in absurd (let lengths = ap length none in omega arith)
numbers-behind (Some align, size) first behind fit from = let tail : behind ≡ size_text size = cc in (size, fit.1, tail)

-- ---- fields

-- what follows the pointer
abbrev pub behind_pointer : Option Numbers → List ℕ
behind_pointer None = []
behind_pointer (Some numbers) = space ∷ numbers_text numbers

pub fields-front : (bytes : List ℕ) (pointer : Option ℕ) (numbers : Option Numbers) → IsPointer pointer → bytes ≡ fields_text pointer numbers → IsFront IsPointer pointer_text bytes pointer (behind_pointer numbers)
fields-front bytes pointer None valid same = (valid, tt, same ∙ sym (append-nil (pointer_text pointer)))
fields-front bytes pointer (Some numbers) valid same = (valid, refl, same)

-- behind a space there are numbers
pub fields-behind : (numbers : Option Numbers) (behind : List ℕ) → IfSome numbers AreNumbers → behind_pointer numbers ≡ space ∷ behind → (n : Numbers) × AreNumbers n × (behind ≡ numbers_text n)
fields-behind None behind fit same = absurd (let lengths = ap length same in omega arith)
fields-behind (Some numbers) behind fit same = let tail : behind ≡ numbers_text numbers = cc in (numbers, fit, tail)
