-- The ledger keeps what is held now.
use Rattle.std.proofs.Common.{refl, subst}
use Rattle.mtrace_replay.specs.MarkedReplay.{MarkedReplayed, MarksLast}
use Rattle.mtrace_replay.proofs.OnLedger.MarkedLemmas.{marked_last}
use Rattle.mtrace_replay.proofs.ledger.marked.MarkedReplay.mark_last.Goals as goal

pub returns-then-self : goal.returns-then-self
returns-then-self c =
    let inside = c.self.inside in
    let ledger = c.set_mark.new.self in
    let old : MarkedReplayed = record { all = inside.ledger.all; at_mark = inside.ledger.at_peak; mark = inside.mark; lines = inside.lines; pending = inside.pending } in
    let new : MarkedReplayed = record { all = ledger.all; at_mark = ledger.at_peak; mark = inside.lines; lines = inside.lines; pending = inside.pending } in
    subst (λ (before : MarkedReplayed). MarksLast before new) c.self.view_is
    (marked_last old new c.set_mark.ensures.all refl refl refl c.set_mark.ensures.at_peak)
