-- The keys in order are the addresses.
use Rattle.std.proofs.Common.{◌∙◌, ap}
use Rattle.mtrace_replay.proofs.OnLedger.LedgerLemmas.{addresses_of}
use Rattle.mtrace_replay.proofs.OnLedger.EntryOrder.{keys_in_order}
use Rattle.mtrace_replay.specs.Ledger.{LedgerState}
use Rattle.mtrace_replay.proofs.ledger.ledger.Ledger.addresses.Goals as goal

pub returns : goal.returns
returns c =
    keys_in_order c.self.inside.locations c.self.inside.held.entries c.self.invariant.0.distinct c.in_ok-all.all.items c.in_ok-all.ensures.moved c.in_ok-all.ensures.sorted
    ∙ ap addresses_of (ap (λ (state : LedgerState). state.all) c.self.view_is)
