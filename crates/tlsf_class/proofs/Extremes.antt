-- The greatest and the least number below a bound that passes a test.
use Rattle.std.proofs.Common.{◌≡◌, ℕ, zero, suc, ◌<◌, ◌≤◌, Bool, true, false, Option, Some, None, MatchOption, ◌∙◌, sym, ap, inl, inr, if◌then◌else◌, arith}
use Rattle.std.proofs.lemmas.Bool.{cond_both, cases_lt, false≢true}
use Rattle.tlsf_class.specs.Classes.{greatest, least}

pub greatest_le : (test : ℕ → Bool) (k : ℕ) → greatest test (suc k) ≤ k
greatest_le test zero = cond_both (test zero) zero zero (λ v. v ≤ zero) (λ _. omega arith) (λ _. omega arith)
greatest_le test (suc k) =
    let before : greatest test (suc k) ≤ k = greatest_le test k in
    cond_both (test (suc k)) (suc k) (greatest test (suc k)) (λ v. v ≤ suc k) (λ _. omega arith) (λ _. omega arith)

-- where 0 passes, the greatest passes
pub greatest_passes : (test : ℕ → Bool) (k : ℕ) → test zero ≡ true → test (greatest test (suc k)) ≡ true
greatest_passes test zero first = cond_both (test zero) zero zero (λ v. test v ≡ true) (λ _. first) (λ _. first)
greatest_passes test (suc k) first =
    cond_both (test (suc k)) (suc k) (greatest test (suc k)) (λ v. test v ≡ true) (λ passes. passes)
    (λ _. greatest_passes test k first)

-- what passes is at most the greatest
pub greatest_above : (test : ℕ → Bool) (bound k : ℕ) → k < bound → test k ≡ true → k ≤ greatest test bound
greatest_above test zero k below passes = omega arith
greatest_above test (suc b) k below passes =
    cond_both (test b) b (greatest test b) (λ v. k ≤ v) (λ _. omega arith)
    (λ fails. elim (cases_lt k b) [
      | inl earlier ↦ greatest_above test b k earlier passes
      | inr later ↦
          let same : k ≡ b = omega arith in
          absurd (false≢true (sym fails ∙ (sym (ap test same) ∙ passes)))
    ])

-- what the least is, where there is one
pub record IsLeast (test : ℕ → Bool) (bound c : ℕ) : Type 0 where
  pub below : c < bound
  pub passes : test c ≡ true
  pub first : (k : ℕ) → k < c → test k ≡ false

-- the answer of `least`
abbrev pub AnswersLeast : (ℕ → Bool) → ℕ → Option ℕ → Type 0
AnswersLeast test bound answer = MatchOption answer ((k : ℕ) → k < bound → test k ≡ false) (λ c. IsLeast test bound c)

least_more : (test : ℕ → Bool) (b : ℕ) (answer : Option ℕ) → AnswersLeast test b answer →
    AnswersLeast test (suc b) (elim answer [ Some c ↦ Some c | None ↦ (if test b then Some b else None) ])
least_more test b (Some c) h = record { below = let less : c < b = h.below in omega arith; passes = h.passes; first = h.first }
least_more test b None h =
    cond_both (test b) (Some b) None (λ v. AnswersLeast test (suc b) v)
    (λ passes. record { below = omega arith; passes = passes; first = h })
    (λ fails. λ k below. elim (cases_lt k b) [
      | inl earlier ↦ h k earlier
      | inr later ↦ let same : k ≡ b = omega arith in ap test same ∙ fails
    ])

pub least_answers : (test : ℕ → Bool) (bound : ℕ) → AnswersLeast test bound (least test bound)
least_answers test zero = λ k below. let none : ⊥ = omega arith in absurd none
least_answers test (suc b) = least_more test b (least test b) (least_answers test b)
