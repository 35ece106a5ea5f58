-- What is known of an answer implies what else is to be known of it.
use Rattle.std.proofs.Common.{◌≡◌, refl, rules, Result, Ok, Err}
use Rattle.std.specs.Prelude.{IfErr, IsOk}

module _ {A E : Type 0} where
  -- what each error has
  pub each_err : (result : Result A E) (P : E → Type 0) → ((e : E) → result ≡ Err e → P e) → IfErr result P
  each_err (Ok a) P f = tt
  each_err (Err e) P f = f e refl

  -- where there can be none
  pub never_err : (result : Result A E) → ((e : E) → result ≡ Err e → ⊥) → IsOk result
  never_err (Ok a) none = search rules
  never_err (Err e) none = absurd (none e refl)
