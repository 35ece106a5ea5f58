-- How a list in order of address, and a sum over it, change by one address.
use Rattle.std.proofs.Common.{cond, Bool, true, false, Option, Some, None, ◌≡◌, ℕ, ◌+◌, ◌<◌, List, [], ◌∷◌, refl, sym, ap, ◌∙◌, arith, Less}
use Rattle.std.specs.Prelude.{◌==◌, nat_lt, sum_by, count_by, if◌then◌else◌}
use Rattle.std.specs.List.{AllByRecursion}
use Rattle.std.specs.List.Sorted.{IsStrictlySortedBy}
use Rattle.std.specs.Ordering.{nat_cmp}
use Rattle.std.proofs.lemmas.Bool.{eqb-true, cond-false}
use Rattle.std.proofs.lemmas.Bool.Decides.{nat_tests}
use Rattle.std.proofs.lemmas.List.Sums.{sum_by-cons}
use Rattle.mtrace_replay.specs.Moment.{Given}
use Rattle.mtrace_replay.specs.History.{unless_taken}
use Rattle.mtrace_replay.specs.Step.{held_given}
use Rattle.mtrace_replay.specs.Needs.{of_one}
use Rattle.mtrace_replay.proofs.History.SortedLemmas.{addresses}

-- the addresses rise
abbrev pub Rise : List Given → Type 0
Rise all = IsStrictlySortedBy nat_cmp (addresses all)

-- one more among others in order
abbrev pub put : Given → List Given → List Given
put given [] = given ∷ []
put given (first ∷ rest) = if nat_lt first.entry.addr given.entry.addr then first ∷ put given rest else given ∷ (first ∷ rest)

-- those but for the one at an address
abbrev pub without : ℕ → List Given → List Given
without address [] = []
without address (first ∷ rest) = if first.entry.addr == address then rest else first ∷ without address rest

pub held_given-put : (e : Given) (es : List Given) (a : ℕ) → held_given (put e es) a ≡ cond (e.entry.addr == a) (Some e) (held_given es a)
held_given-put e [] a = refl
held_given-put e (f ∷ fs) a = by_order (held_given-put e fs a) (nat_lt f.entry.addr e.entry.addr) refl
  where
    by_first : (held_given (put e fs) a ≡ cond (e.entry.addr == a) (Some e) (held_given fs a)) → f.entry.addr < e.entry.addr → (b : Bool) → (f.entry.addr == a) ≡ b → cond b (Some f) (held_given (put e fs) a) ≡ cond (e.entry.addr == a) (Some e) (cond b (Some f) (held_given fs a))
    by_first later lower false is = later
    by_first later lower true is = let other : (e.entry.addr == a) ≡ false = grind (arith, nat_tests) in sym (cond-false (e.entry.addr == a) (Some e) (Some f) other)

    by_order : (held_given (put e fs) a ≡ cond (e.entry.addr == a) (Some e) (held_given fs a)) → (b : Bool) → nat_lt f.entry.addr e.entry.addr ≡ b → held_given (cond b (f ∷ put e fs) (e ∷ (f ∷ fs))) a ≡ cond (e.entry.addr == a) (Some e) (held_given (f ∷ fs) a)
    by_order later false is = refl
    by_order later true is = by_first later (grind (arith, nat_tests)) (f.entry.addr == a) refl

all-put : (P : ℕ → Type 0) (e : Given) (es : List Given) → P e.entry.addr → AllByRecursion P (addresses es) → AllByRecursion P (addresses (put e es))
all-put P e [] its all = (its, all)
all-put P e (f ∷ fs) its all = by_order (all-put P e fs its all.1) (nat_lt f.entry.addr e.entry.addr)
  where
    by_order : AllByRecursion P (addresses (put e fs)) → (b : Bool) → AllByRecursion P (addresses (cond b (f ∷ put e fs) (e ∷ (f ∷ fs))))
    by_order later false = (its, all)
    by_order later true = (all.0, later)

-- what is above an address is above a lower one
pub all_above : (low high : ℕ) → low < high → (all : List ℕ) → AllByRecursion (λ (a : ℕ). nat_cmp high a ≡ Less) all → AllByRecursion (λ (a : ℕ). nat_cmp low a ≡ Less) all
all_above low high less [] above = tt
all_above low high less (a ∷ rest) above = (by_first above.0, all_above low high less rest above.1)
  where
    by_first : nat_cmp high a ≡ Less → nat_cmp low a ≡ Less
    by_first first = grind (arith, nat_tests)

-- what isn't found at the first isn't the first
not_first : (f : Given) (fs : List Given) (a : ℕ) → held_given (f ∷ fs) a ≡ None → ((f.entry.addr == a) ≡ false) × (held_given fs a ≡ None)
not_first f fs a none = by_first (f.entry.addr == a) none
  where
    by_first : (b : Bool) → cond b (Some f) (held_given fs a) ≡ None → (b ≡ false) × (held_given fs a ≡ None)
    by_first true is = absurd (cc)
    by_first false is = (refl, is)

pub rise-put : (e : Given) (es : List Given) → Rise es → held_given es e.entry.addr ≡ None → Rise (put e es)
unfolding IsStrictlySortedBy
rise-put e [] sorted apart = (tt, tt)
rise-put e (f ∷ fs) sorted apart = by_order (rise-put e fs sorted.1 (not_first f fs e.entry.addr apart).1) (nat_lt f.entry.addr e.entry.addr) refl
  where
    by_order : Rise (put e fs) → (b : Bool) → nat_lt f.entry.addr e.entry.addr ≡ b → Rise (cond b (f ∷ put e fs) (e ∷ (f ∷ fs)))
    by_order later true is = (all-put (λ (a : ℕ). nat_cmp f.entry.addr a ≡ Less) e fs (grind (arith, nat_tests)) sorted.0, later)
    by_order later false is =
        let other = (not_first f fs e.entry.addr apart).0 in
        let less : e.entry.addr < f.entry.addr = grind (arith, nat_tests) in
        ((grind (arith, nat_tests), all_above e.entry.addr f.entry.addr less (addresses fs) sorted.0), sorted)

pub sum-put : (m : Given → ℕ) (e : Given) (es : List Given) → sum_by m (put e es) ≡ m e + sum_by m es
sum-put m e [] = sum_by-cons m e []
sum-put m e (f ∷ fs) = by_order (sum-put m e fs) (nat_lt f.entry.addr e.entry.addr)
  where
    by_order : sum_by m (put e fs) ≡ m e + sum_by m fs → (b : Bool) → sum_by m (cond b (f ∷ put e fs) (e ∷ (f ∷ fs))) ≡ m e + sum_by m (f ∷ fs)
    by_order later false = sum_by-cons m e (f ∷ fs)
    by_order later true = let first = sum_by-cons m f (put e fs) in let rest = sum_by-cons m f fs in omega (arith, later, first, rest)

pub sum-without : (m : Given → ℕ) (a : ℕ) (es : List Given) → sum_by m es ≡ of_one m (held_given es a) + sum_by m (without a es)
sum-without m a [] = refl
sum-without m a (f ∷ fs) = by_first (sum-without m a fs) (f.entry.addr == a)
  where
    by_first : sum_by m fs ≡ of_one m (held_given fs a) + sum_by m (without a fs) → (b : Bool) → sum_by m (f ∷ fs) ≡ of_one m (cond b (Some f) (held_given fs a)) + sum_by m (cond b fs (f ∷ without a fs))
    by_first later true = sum_by-cons m f fs
    by_first later false = let first = sum_by-cons m f fs in let rest = sum_by-cons m f (without a fs) in omega (arith, later, first, rest)

-- one where a block passes, else 0
abbrev pub one_if : (Given → Bool) → Option Given → ℕ
one_if p held = of_one (λ given. if p given then 1 else 0) held

pub count-put : (p : Given → Bool) (e : Given) (es : List Given) → count_by p (put e es) ≡ one_if p (Some e) + count_by p es
count-put p e es = sum-put (λ given. if p given then 1 else 0) e es

pub count-without : (p : Given → Bool) (a : ℕ) (es : List Given) → count_by p es ≡ one_if p (held_given es a) + count_by p (without a es)
count-without p a es = sum-without (λ given. if p given then 1 else 0) a es

all-without : (P : ℕ → Type 0) (a : ℕ) (es : List Given) → AllByRecursion P (addresses es) → AllByRecursion P (addresses (without a es))
all-without P a [] all = tt
all-without P a (f ∷ fs) all = by_first (all-without P a fs all.1) (f.entry.addr == a)
  where
    by_first : AllByRecursion P (addresses (without a fs)) → (b : Bool) → AllByRecursion P (addresses (cond b fs (f ∷ without a fs)))
    by_first later true = all.1
    by_first later false = (all.0, later)

pub rise-without : (a : ℕ) (es : List Given) → Rise es → Rise (without a es)
unfolding IsStrictlySortedBy
rise-without a [] sorted = tt
rise-without a (f ∷ fs) sorted = by_first (rise-without a fs sorted.1) (f.entry.addr == a)
  where
    by_first : Rise (without a fs) → (b : Bool) → Rise (cond b fs (f ∷ without a fs))
    by_first later true = sorted.1
    by_first later false = (all-without (λ (b : ℕ). nat_cmp f.entry.addr b ≡ Less) a fs sorted.0, later)

-- what is below all isn't found
none_below : (a : ℕ) (es : List Given) → AllByRecursion (λ (b : ℕ). nat_cmp a b ≡ Less) (addresses es) → held_given es a ≡ None
none_below a [] all = refl
none_below a (f ∷ fs) all =
    let other : (f.entry.addr == a) ≡ false = (let first = all.0 in grind (arith, nat_tests)) in
    ap (λ b. cond b (Some f) (held_given fs a)) other ∙ none_below a fs all.1

pub held_given-without : (a : ℕ) (es : List Given) → Rise es → (q : ℕ) → held_given (without a es) q ≡ cond (a == q) None (held_given es q)
unfolding IsStrictlySortedBy
held_given-without a [] sorted q = by_none (a == q)
  where
    by_none : (b : Bool) → (let none : Option Given = None in none ≡ cond b None none)
    by_none true = refl
    by_none false = refl
held_given-without a (f ∷ fs) sorted q = by_first (held_given-without a fs sorted.1 q) (f.entry.addr == a) refl
  where
    apart : (f.entry.addr == a) ≡ true → (b : Bool) → (a == q) ≡ b → held_given fs q ≡ cond b None (cond (f.entry.addr == q) (Some f) (held_given fs q))
    apart here true is =
        let same : f.entry.addr ≡ q = eqb-true f.entry.addr a here ∙ eqb-true a q is in
        ap (λ b. held_given fs b) (sym same) ∙ none_below f.entry.addr fs sorted.0
    apart here false is =
        let other : (f.entry.addr == q) ≡ false = ap (λ b. b == q) (eqb-true f.entry.addr a here) ∙ is in
        sym (ap (λ b. cond b (Some f) (held_given fs q)) other)

    later_on : (held_given (without a fs) q ≡ cond (a == q) None (held_given fs q)) → (f.entry.addr == a) ≡ false → (b : Bool) → (f.entry.addr == q) ≡ b
        → cond b (Some f) (held_given (without a fs) q) ≡ cond (a == q) None (cond b (Some f) (held_given fs q))
    later_on later there false is = later
    later_on later there true is =
        let other : (a == q) ≡ false = grind (arith, nat_tests) in
        sym (ap (λ b. cond b None (Some f)) other)

    by_first : (held_given (without a fs) q ≡ cond (a == q) None (held_given fs q)) → (b : Bool) → (f.entry.addr == a) ≡ b → held_given (cond b fs (f ∷ without a fs)) q ≡ cond (a == q) None (held_given (f ∷ fs) q)
    by_first later true is = apart is (a == q) refl
    by_first later false is = later_on later is (f.entry.addr == q) refl

-- what was held before, but for what was released
abbrev pub still_held : Option ℕ → List Given → List Given
still_held None all = all
still_held (Some address) all = without address all

-- and then perhaps one more
abbrev pub with_given : Option Given → List Given → List Given
with_given None all = all
with_given (Some given) all = put given all

pub rise-rest : (address : Option ℕ) (all : List Given) → Rise all → Rise (still_held address all)
rise-rest None all rise = rise
rise-rest (Some address) all rise = rise-without address all rise

pub held_given-rest : (address : Option ℕ) (all : List Given) → Rise all → (q : ℕ) → held_given (still_held address all) q ≡ unless_taken address q (held_given all q)
held_given-rest None all rise q = refl
held_given-rest (Some address) all rise q = held_given-without address all rise q
