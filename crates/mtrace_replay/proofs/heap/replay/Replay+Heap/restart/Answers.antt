-- A heap that begins anew stands for no line.
use Rattle.std.proofs.Common.{List, [], length, refl, sym, subst, ap, ◌∙◌, arith}
use Rattle.mtrace_replay.specs.Moment.{Given, Moment}
use Rattle.mtrace_replay.specs.History.{AreHeld, content_after}
use Rattle.mtrace_replay.specs.Started.{Bare, started}
use Rattle.mtrace_replay.specs.Totals.{AreTotals}
use Rattle.mtrace_replay.specs.declared.heap.totals.Totals.{Totals}
use Rattle.mtrace_replay.specs.Holding.{Holding}
use Rattle.mtrace_replay.specs.Index.{Indexed}
use Rattle.mtrace_replay.specs.Step.{all_given, AreLive}
use Rattle.mtrace_replay.proofs.History.Moments.{moments-none}
use Rattle.mtrace_replay.proofs.History.FoundLemmas.{none_held}
use Rattle.mtrace_replay.proofs.OnHeap.HeldStayLive.{none_live}
use Rattle.mtrace_replay.proofs.OnHeap.StartLemmas.{started_records, started_room}
use Rattle.mtrace_replay.proofs.OnHeap.OneLineMore.{all_zero, totals_none}
use Rattle.mtrace_replay.proofs.heap.replay.Replay+Heap.restart.Goals as goal

pub invariant_of-self : goal.invariant_of-self
invariant_of-self c =
    let heap = c.restart_heap.new.heap.content in
    let few = started_records c.args.settings c.requires.good in
    let same = ap (λ (content : Bare). content.records) c.restart_heap.ensures in
    let P : List Holding → Type 0 = λ all. AreLive all heap in
    let empty = ap (λ (index : Indexed). index.all) c.restart.ensures in
    record {
      live = (λ works. subst P (sym empty) (none_live heap (omega (arith, few, same))));
      lacks = (λ refused. absurd (cc));
      few = omega (arith, ap (λ (all : List Holding). length all) empty);
      room = ap (λ (index : Indexed). index.room) c.restart.ensures ∙ sym (same ∙ started_room c.args.settings c.requires.good);
      served = omega (arith, ap (λ (totals : Totals). totals.served) (all_zero _ c.default-self-inside.ensures));
      refused = omega (arith, ap (λ (totals : Totals). totals.refused) (all_zero _ c.default-self-inside.ensures));
    }

pub returns-clause-made : goal.returns-clause-made
returns-clause-made c =
    let start = started c.args.settings in
    let none = moments-none start in
    let P : List Given → List Moment → Type 0 = λ all past. AreHeld all past in
    let T : List Moment → Totals → Type 0 = λ past totals. AreTotals start past totals in
    let fresh = c.default-self-inside in
    record {
      works = refl;
      lines_are = ap (λ (totals : Totals). totals.lines) (all_zero _ fresh.ensures);
      pending_is = refl;
      content_is = c.restart_heap.ensures ∙ ap (content_after start) (sym none);
      held = subst (P (all_given c.restart.new.self.all)) (sym none) (subst (λ (all : List Holding). P (all_given all) []) (sym (ap (λ (index : Indexed). index.all) c.restart.ensures)) none_held);
      totals = subst (λ past. T past fresh.result) (sym none) (subst (T []) (sym (all_zero _ fresh.ensures)) (totals_none c.args.settings));
    }

pub returns-clause-records : goal.returns-clause-records
returns-clause-records c = ap (λ (content : Bare). content.records) c.restart_heap.ensures ∙ started_room c.args.settings c.requires.good
