-- The sum is that of the map's values.
use Rattle.std.proofs.Common.{◌∙◌, sym, ap}
use Rattle.mtrace_replay.specs.Texts.{total_size}
use Rattle.mtrace_replay.proofs.OnLedger.LedgerLemmas.{total_all}
use Rattle.mtrace_replay.specs.Ledger.{LedgerState}
use Rattle.mtrace_replay.proofs.ledger.ledger.Ledger.bytes.Goals as goal

pub returns : goal.returns
returns c = c.self.invariant.0.bytes_are ∙ sym (total_all c.self.inside.locations c.self.inside.held.entries) ∙ ap total_size (ap (λ (state : LedgerState). state.all) c.self.view_is)
