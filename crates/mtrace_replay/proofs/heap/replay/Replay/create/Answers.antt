-- A new heap with nothing held stands for no line.
use Rattle.std.proofs.Common.{List, [], length, refl, sym, subst, ap, ◌∙◌, arith}
use Rattle.mtrace_replay.specs.Moment.{Given, Moment}
use Rattle.mtrace_replay.specs.History.{AreHeld, content_after}
use Rattle.mtrace_replay.specs.Started.{Bare, started}
use Rattle.mtrace_replay.specs.Totals.{AreTotals}
use Rattle.mtrace_replay.specs.declared.heap.totals.Totals.{Totals}
use Rattle.mtrace_replay.specs.Index.{Indexed}
use Rattle.mtrace_replay.specs.Step.{all_given, AreLive}
use Rattle.mtrace_replay.proofs.History.Moments.{moments-none}
use Rattle.mtrace_replay.proofs.History.FoundLemmas.{none_held}
use Rattle.mtrace_replay.proofs.OnHeap.HeldStayLive.{none_live}
use Rattle.mtrace_replay.proofs.OnHeap.StartLemmas.{started_records, started_room}
use Rattle.mtrace_replay.proofs.OnHeap.OneLineMore.{all_zero, totals_none}
use Rattle.mtrace_replay.proofs.heap.replay.Replay.create.Goals as goal

pub invariant_of-result : goal.invariant_of-result
invariant_of-result g c =
    let heap = g.H.Heaped.content c.in-Ok.heap in
    let few = started_records c.args.settings (sym c.are_bad.ensures ∙ c.if-are_bad.false) in
    let same = ap (λ (content : Bare). content.records) c.in-Ok.ensures in
    let P : Indexed → Type 0 = λ index. AreLive index.all heap in
    let held = c.in-Ok-new.ensures in
    record {
      live = (λ works. subst P (sym held) (none_live heap (omega (arith, few, same))));
      lacks = (λ refused. absurd (cc));
      few = omega (arith, ap (λ (index : Indexed). length index.all) held);
      room = ap (λ (index : Indexed). index.room) held ∙ sym (same ∙ started_room c.args.settings (sym c.are_bad.ensures ∙ c.if-are_bad.false));
      served = omega (arith, ap (λ (totals : Totals). totals.served) (all_zero _ c.default.ensures));
      refused = omega (arith, ap (λ (totals : Totals). totals.refused) (all_zero _ c.default.ensures));
    }

pub returns-clause-made : goal.returns-clause-made
returns-clause-made g c =
    let start = started c.args.settings in
    let none = moments-none start in
    let P : List Given → List Moment → Type 0 = λ all past. AreHeld all past in
    let T : List Moment → Totals → Type 0 = λ past totals. AreTotals start past totals in
    record {
      works = refl;
      lines_are = ap (λ (totals : Totals). totals.lines) (all_zero _ c.default.ensures);
      pending_is = refl;
      content_is = c.in-Ok.ensures ∙ ap (content_after start) (sym none);
      held = subst (P (all_given c.in-Ok-new.held.all)) (sym none) (subst (λ (index : Indexed). P (all_given index.all) []) (sym c.in-Ok-new.ensures) none_held);
      totals = subst (λ past. T past c.default.result) (sym none) (subst (T []) (sym (all_zero _ c.default.ensures)) (totals_none c.args.settings));
    }

pub returns-clause-records : goal.returns-clause-records
returns-clause-records g c =
    ap (λ (content : Bare). content.records) c.in-Ok.ensures ∙ started_room c.args.settings (sym c.are_bad.ensures ∙ c.if-are_bad.false)
