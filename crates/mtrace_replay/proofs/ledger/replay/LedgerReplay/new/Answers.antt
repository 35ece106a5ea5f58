-- Nothing was held before the first line.
use Rattle.std.proofs.Common.{[], sym, subst}
use Rattle.mtrace_replay.specs.Ledger.{LedgerState}
use Rattle.mtrace_replay.specs.LedgerReplay.{LedgerStandsFor}
use Rattle.mtrace_replay.proofs.OnLedger.LedgerReplayLemmas.{none_yet, none_followed}
use Rattle.mtrace_replay.proofs.ledger.replay.LedgerReplay.new.Goals as goal

pub returns : goal.returns
returns c = subst (λ (state : LedgerState). LedgerStandsFor (record none_yet { all = state.all; at_peak = state.at_peak; called = state.called }) []) (sym c.new.ensures) none_followed
