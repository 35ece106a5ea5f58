-- The sites are those of what was held at the peak, and of what is held, and the callers are those of the calls.
use Rattle.std.proofs.Common.{List, sym, subst}
use Rattle.mtrace_replay.specs.Sites.{Site, AreTallied}
use Rattle.mtrace_replay.specs.Callers.{AreCounted}
use Rattle.mtrace_replay.proofs.ledger.prepared.prepare.Goals as goal

pub returns-in_ok-end-in-Sites-clause-named : goal.returns-in_ok-end-in-Sites-clause-named
returns-in_ok-end-in-Sites-clause-named c = (
  λ entries tallied. c.in_ok-peak-in-Sites.ensures entries (subst (λ (sites : List Site). AreTallied entries sites) (sym c.ledger-in-Sites.ensures.at_peak) tallied),
  c.in_ok-end-in-Sites.ensures c.args.replay.now.all (sym c.ledger-in-Sites-2.ensures.all),
)

pub returns-in_ok-callers-in-Callers-clause-named : goal.returns-in_ok-callers-in-Callers-clause-named
returns-in_ok-callers-in-Callers-clause-named c = (
  (
    λ entries tallied. c.in_ok-peak-in-Callers.ensures entries (subst (λ (sites : List Site). AreTallied entries sites) (sym c.ledger-in-Callers.ensures.at_peak) tallied),
    c.in_ok-end-in-Callers.ensures c.args.replay.now.all (sym c.ledger-in-Callers-2.ensures.all),
  ),
  λ calls temporary counted. c.in_ok-callers-in-Callers.ensures calls temporary (subst (AreCounted calls temporary) (sym c.ledger-in-Callers-3.ensures.called) counted),
)
