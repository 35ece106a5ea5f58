-- The range of a size is the first that ends there or behind it.
use Rattle.std.proofs.Common.{◌≡◌, ℕ, ◌<◌, ◌≤◌, Bool, true, false, Option, Some, None, inl, inr, sym, ◌∙◌, arith}
use Rattle.std.specs.Prelude.{nat_le, unwrap_or}
use Rattle.std.proofs.lemmas.Bool.{false≢true, cases_lt}
use Rattle.tlsf_class.specs.Classes.{least}
use Rattle.tlsf_class.proofs.Extremes.{AnswersLeast, least_answers}
use Rattle.mtrace_replay.specs.Parts.{size_ranges, range_end, range_of}

-- the first number that passes, or the bound where none does
module _ (test : ℕ → Bool) (bound c : ℕ) (within : c ≤ bound) (before : (k : ℕ) → k < c → test k ≡ false) (passes : c < bound → test c ≡ true) where
  by_answer : (answer : Option ℕ) → AnswersLeast test bound answer → unwrap_or answer bound ≡ c
  by_answer None none = elim (cases_lt c bound) [
    | inl below ↦ absurd (false≢true (sym (none c below) ∙ passes below))
    | inr not ↦ omega (arith, within, not)
  ]
  by_answer (Some found) is = elim (cases_lt found c) [
    | inl below ↦ absurd (false≢true (sym (before found below) ∙ is.passes))
    | inr not ↦ elim (cases_lt c found) [
      | inl above ↦ absurd (false≢true (sym (is.first c above) ∙ passes (omega (arith, above, is.below))))
      | inr same ↦ omega (arith, not, same)
    ]
  ]

  pub first_is : unwrap_or (least test bound) bound ≡ c
  first_is = by_answer (least test bound) (least_answers test bound)

pub range_is : (size range : ℕ) → range ≤ size_ranges → ((k : ℕ) → k < range → nat_le size (range_end k) ≡ false) → (range < size_ranges → nat_le size (range_end range) ≡ true) → range ≡ range_of size
unfolding range_of
range_is size range within before passes = sym (first_is (λ range. nat_le size (range_end range)) size_ranges range within before passes)
