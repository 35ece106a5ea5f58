-- Nothing is held yet.
use Rattle.std.proofs.Common.{[], sym, subst}
use Rattle.mtrace_replay.specs.Ledger.{LedgerState}
use Rattle.mtrace_replay.specs.MarkedReplay.{MarkedStandsFor}
use Rattle.mtrace_replay.proofs.OnLedger.MarkedLemmas.{none_marked, none_stands}
use Rattle.mtrace_replay.proofs.ledger.marked.MarkedReplay.new.Goals as goal

pub returns-clause-stands : goal.returns-clause-stands
returns-clause-stands c = subst (λ (state : LedgerState). MarkedStandsFor (record none_marked { all = state.all; at_mark = state.at_peak }) []) (sym c.new.ensures) none_stands
