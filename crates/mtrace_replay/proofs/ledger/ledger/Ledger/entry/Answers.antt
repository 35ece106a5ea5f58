-- The entry is what the map has at the address.
use Rattle.std.proofs.Common.{◌∙◌, sym, ap, Some, option_map}
use Rattle.std.specs.Option.{option_copied}
use Rattle.mtrace_replay.specs.Ledger.{entry_of, entry_under}
use Rattle.mtrace_replay.proofs.OnLedger.LedgerLemmas.{found}
use Rattle.mtrace_replay.specs.Ledger.{LedgerState}
use Rattle.mtrace_replay.proofs.ledger.ledger.Ledger.entry.Goals as goal

pub returns-in_default : goal.returns-in_default
returns-in_default c =
    ap (option_map (λ held. entry_of c.self.inside.locations (c.args.address, held))) (ap option_copied (sym c.in_default.is) ∙ c.get.ensures.value)
    ∙ sym (found c.self.inside.locations c.self.inside.held.entries c.args.address)
    ∙ ap (λ all. entry_under all c.args.address) (ap (λ (state : LedgerState). state.all) c.self.view_is)

pub returns : goal.returns
returns c =
    ap (λ at. Some (record { addr = c.args.address; size = c.in-Some.held.now.size; line = c.in-Some.held.now.line; at = at })) c.at-at.ensures
    ∙ ap (option_map (λ held. entry_of c.self.inside.locations (c.args.address, held))) (ap option_copied (sym c.in-Some.is) ∙ c.get.ensures.value)
    ∙ sym (found c.self.inside.locations c.self.inside.held.entries c.args.address)
    ∙ ap (λ all. entry_under all c.args.address) (ap (λ (state : LedgerState). state.all) c.self.view_is)
