-- The least cut's parts are told, or none where a request has no class.
use Rattle.std.proofs.Common.{◌≡◌, ◌++◌, refl, reverse, map, sym, ap, ◌∙◌, subst, nat_eq}
use Rattle.std.specs.HashMap.{get}
use Rattle.mtrace_log.specs.Output.{Puts}
use Rattle.mtrace_replay.specs.declared.ledger.replay.LedgerTotals.{LedgerTotals}
use Rattle.mtrace_replay.specs.Parts.{TellsHeaps, no_parts_text, parts_text, peak_line_text, IsCut, parts_of}
use Rattle.mtrace_replay.specs.Spans.{AreCounted, AreCountedOf}
use Rattle.mtrace_replay.specs.Cuts.{ArePartsIn}
use Rattle.mtrace_replay.specs.PartsText.{part_in}
use Rattle.mtrace_replay.proofs.BySize.PartsRun.{its_part, in_spans, told, tells_parts, follows}
use Rattle.mtrace_replay.proofs.parts.run.tell_parts.Goals as goal

pub returns-in_default-clause-told : goal.returns-in_default-clause-told
returns-in_default-clause-told g c lines stands counted =
    let writes = g.W.Sink.shown in
    let replay = c.args.replay.now.ledger in
    let classes = subst (AreCountedOf (reverse lines)) c.in_default.is counted in
    let tells = subst (λ b. TellsHeaps b c.args.heaps (reverse lines) no_parts_text) (sym classes) refl in
    let text = ap (λ (totals : LedgerTotals). peak_line_text totals.peak_bytes totals.peak_line ++ no_parts_text) c.totals-totals.ensures in
    let put = subst (λ text. Puts c.put_no_parts-put.result text (writes c.args.writer.now) (writes c.put_no_parts-put.new.writer)) text c.put_no_parts-put.ensures in
    follows c.args.heaps lines c.flush_behind.result (writes c.args.writer.now) (writes c.flush_behind.new.writer) _ (tells_parts c.args.heaps lines replay stands no_parts_text tells)
    (c.flush_behind.ensures.flushed (writes c.args.writer.now) _ put) c.flush_behind.ensures.fault

pub least_cut-requires-clause-parts : goal.least_cut-requires-clause-parts
least_cut-requires-clause-parts g c =
    let some = c.requires.lines in
    let counted = subst (AreCountedOf (reverse some.0)) c.in-Some.is some.2 in
    let spans = c.in-Some.spans.all in
    let part = its_part (reverse some.0) spans (get nat_eq c.in-Some.spans.ranges) counted in
    (part, subst (ArePartsIn part) (sym c.as_slice.ensures) (in_spans (reverse some.0) spans (get nat_eq c.in-Some.spans.ranges) counted))

pub returns-clause-told : goal.returns-clause-told
returns-clause-told g c lines stands is_counted =
    let writes = g.W.Sink.shown in
    let replay = c.args.replay.now.ledger in
    let spans = c.in-Some.spans.all in
    let ranges = get nat_eq c.in-Some.spans.ranges in
    let counted : AreCounted (reverse lines) spans ranges = subst (AreCountedOf (reverse lines)) c.in-Some.is is_counted in
    let part = its_part (reverse lines) spans ranges counted in
    let within = in_spans (reverse lines) spans ranges counted in
    let ends = c.in-Ok.cut.ends.items in
    let chosen = c.in-Ok.ensures.least part (subst (ArePartsIn part) (sym c.as_slice.ensures) within) in
    let parts_are : map part_in c.as_slice-4.result.now ≡ parts_of part 0 ends =
    ap (map part_in) c.as_slice-4.ensures.value
    ∙ c.parts_of-parts.ensures part (subst (ArePartsIn part) (sym c.as_slice-2.ensures) within) (subst (IsCut part 0) (sym c.as_slice-3.ensures.value) chosen.cut)
    ∙ ap (parts_of part 0) c.as_slice-3.ensures.value in
    let text = ap (λ (totals : LedgerTotals). peak_line_text totals.peak_bytes totals.peak_line ++ parts_text (map part_in c.as_slice-4.result.now)) c.totals-totals.ensures
    ∙ ap (λ parts. peak_line_text replay.peak_bytes replay.peak_line ++ parts_text parts) parts_are in
    let put = subst (λ text. Puts c.put_parts-put.result text (writes c.args.writer.now) (writes c.put_parts-put.new.writer)) text c.put_parts-put.ensures in
    follows c.args.heaps lines c.flush_behind-2.result (writes c.args.writer.now) (writes c.flush_behind-2.new.writer) _
    (tells_parts c.args.heaps lines replay stands (parts_text (parts_of part 0 ends)) (told (reverse lines) spans ranges counted c.args.heaps ends chosen))
    (c.flush_behind-2.ensures.flushed (writes c.args.writer.now) _ put) c.flush_behind-2.ensures.fault
