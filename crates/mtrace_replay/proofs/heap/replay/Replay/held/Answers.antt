-- The index's entries, as the replay shows them.
use Rattle.std.proofs.Common.{◌≤◌, length, sym, subst, ap, ◌∙◌, arith}
use Rattle.std.proofs.lemmas.List.{length-map}
use Rattle.mtrace_replay.specs.Holding.{Holding}
use Rattle.mtrace_replay.specs.Replay.{Replayed, entries}
use Rattle.mtrace_replay.proofs.History.FoundLemmas.{entries_given}
use Rattle.mtrace_replay.proofs.heap.replay.Replay.held.Goals as goal

pub returns : goal.returns
returns g c =
    let same = c.entries.ensures.entries in
    let many = length-map c.self.inside.holder.held.all (λ (holding : Holding). holding.entry) in
    let P : Replayed → Type 0 = λ replay. length c.entries.result ≤ replay.content.records in
    record {
      entries = same ∙ sym (entries_given c.self.inside.holder.held.all) ∙ ap entries c.self.view_is;
      few = subst P c.self.view_is (omega (arith, ap (λ es. length es) same, many, c.self.invariant.few));
    }
