-- One blank span more in each turn.
use Rattle.std.proofs.Common.{◌≡◌, suc, ◌+◌, ◌-◌, [], ◌∷◌, ◌++◌, append_assoc, sym, ap, ◌∙◌, arith}
use Rattle.std.proofs.lemmas.List.{append-nil}
use Rattle.mtrace_replay.specs.Span.{blank}
use Rattle.mtrace_replay.specs.SpanRows.{blank_row}
use Rattle.mtrace_replay.proofs.BySize.SpanRowLemmas.{blank_more}
use Rattle.mtrace_replay.proofs.parts.span_rows.push_row.Goals as goal

pub loop-last-init : goal.loop-last-init
unfolding blank_row
loop-last-init c =
    let none : 0 ≡ c.args.first - c.args.first = omega arith in
    sym (append-nil c.args.spans.now.items) ∙ ap (λ many. c.args.spans.now.items ++ blank_row many c.args.first c.args.first) none

pub loop-last-preserved : goal.loop-last-preserved
loop-last-preserved c =
    let first = c.args.first in
    let last = c.loop-last.last in
    let many = last - first in
    let here : last ≡ first + many = omega (arith, c.loop-last.auto.last) in
    let one_more : suc many ≡ last + 1 - first = omega (arith, c.loop-last.auto.last) in
    c.in_ok-push.ensures.items ∙ ap (λ items. items ++ blank first last ∷ []) c.loop-last.invariant
    ∙ append_assoc c.args.spans.now.items (blank_row many first first) (blank first last ∷ [])
    ∙ ap (λ row. c.args.spans.now.items ++ row) (ap (λ end. blank_row many first first ++ blank first end ∷ []) here ∙ blank_more many first first ∙ ap (λ n. blank_row n first first) one_more)

pub returns : goal.returns
returns c =
    let upto = c.loop-last.auto.last-end (omega (arith, c.requires)) in
    let many : c.loop-last.last - c.args.first ≡ 27 - c.args.first = omega (arith, c.loop-last-test.false, upto) in
    c.loop-last.invariant ∙ ap (λ n. c.args.spans.now.items ++ blank_row n c.args.first c.args.first) many
