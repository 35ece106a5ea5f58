-- The map has the address where an entry has it.
use Rattle.std.proofs.Common.{ap, ◌∙◌, refl}
use Rattle.std.specs.Prelude.{nat_eq}
use Rattle.std.specs.Map.{lookup}
use Rattle.mtrace_replay.proofs.OnLedger.LedgerLemmas.{tells}
use Rattle.mtrace_replay.specs.Ledger.{LedgerState}
use Rattle.mtrace_replay.proofs.ledger.ledger.Ledger.is_held.Goals as goal

pub returns : goal.returns
returns c =
    c.contains_key.ensures
    ∙ tells c.self.inside.locations c.self.inside.held.entries c.args.self.now.all (ap (λ (state : LedgerState). state.all) c.self.view_is) c.value.result c.args.address c.value.ensures.value
    (lookup (nat_eq c.value.result) c.self.inside.held.entries) refl
