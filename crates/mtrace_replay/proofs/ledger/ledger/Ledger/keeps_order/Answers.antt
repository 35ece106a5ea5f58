-- The entries are in order, and no address comes twice.
use Rattle.std.proofs.Common.{ap, subst}
use Rattle.std.specs.List.Sorted.{IsStrictlyIncreasing}
use Rattle.mtrace_replay.proofs.OnLedger.LedgerLemmas.{ordered, addresses_of}
use Rattle.mtrace_replay.specs.Ledger.{LedgerState}
use Rattle.mtrace_replay.proofs.ledger.ledger.Ledger.keeps_order.Goals as goal

pub returns : goal.returns
returns c = subst (λ all. IsStrictlyIncreasing (addresses_of all)) (ap (λ (state : LedgerState). state.all) c.self.view_is) (ordered c.self.inside.locations c.self.inside.held.entries c.self.invariant.0.distinct)
