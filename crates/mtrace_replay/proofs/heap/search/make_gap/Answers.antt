-- The gap lies between the keys that the address lies between.
use Rattle.std.proofs.Common.{◌≡◌, ◌-◌, ℕ, suc, None, arith, subst, inl, inr}
use Rattle.std.specs.Prelude.{Result, IfOk, IfErr}
use Rattle.mtrace_replay.specs.Search.{StandsAt, FitsAt}
use Rattle.mtrace_replay.proofs.Index.KeyLemmas.{fits_there, fits_above, fits_below}
use Rattle.mtrace_replay.proofs.heap.search.make_gap.Goals as goal

pub returns-in-Ok-clause-fits : goal.returns-in-Ok-clause-fits
returns-in-Ok-clause-fits c address rise stands fits =
    fits_there address c.args.keys.now.keys c.in-Ok.at (record { address = 0; block = None }) rise (subst (λ (position : Result ℕ ℕ). IfOk position (StandsAt c.args.keys.now.keys address)) c.in-Ok.is stands)

pub returns-then-from-at-clause-fits : goal.returns-then-from-at-clause-fits
returns-then-from-at-clause-fits c address rise stands fits =
    let behind : c.in-Err.at ≡ suc (c.in-Err.at - 1) = omega (arith, c.if-from-at.true) in
    fits_below address c.args.keys.now.keys c.nearest_gap-from.result (c.in-Err.at - 1) (omega (arith, c.if-from-at.true))
    (subst (FitsAt c.args.keys.now.keys address) behind (subst (λ (position : Result ℕ ℕ). IfErr position (FitsAt c.args.keys.now.keys address)) c.in-Err.is fits))

pub returns-else-from-at-clause-fits : goal.returns-else-from-at-clause-fits
returns-else-from-at-clause-fits c address rise stands fits =
    fits_above address c.args.keys.now.keys c.nearest_gap-from.result c.in-Err.at (omega (arith, c.if-from-at.false)) (elim c.nearest_gap-from.ensures [
      | inl end ↦ absurd (c.if-from-end.false (let e : c.nearest_gap-from.result ≡ c.len-end.result = omega (arith, end.0, c.len-end.ensures.len) in e))
      | inr vacant ↦ vacant.0
    ]) (subst (λ (position : Result ℕ ℕ). IfErr position (FitsAt c.args.keys.now.keys address)) c.in-Err.is fits)
