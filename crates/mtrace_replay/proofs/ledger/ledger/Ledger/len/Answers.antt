-- There are as many entries as the map has.
use Rattle.std.proofs.Common.{◌∙◌, sym, ap, length}
use Rattle.mtrace_replay.proofs.OnLedger.LedgerLemmas.{length_all}
use Rattle.mtrace_replay.specs.Ledger.{LedgerState}
use Rattle.mtrace_replay.proofs.ledger.ledger.Ledger.len.Goals as goal

pub returns : goal.returns
returns c = c.len.ensures.len ∙ sym (length_all c.self.inside.locations c.self.inside.held.entries) ∙ ap length (ap (λ (state : LedgerState). state.all) c.self.view_is)
