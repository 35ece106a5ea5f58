-- Each span between the positions has a block less.
use Rattle.std.proofs.Common.{◌≡◌, ◌-◌, get_or, arith, ap, sym, ◌∙◌}
use Rattle.std.specs.Prelude.{slice_set}
use Rattle.mtrace_replay.specs.Span.{one_less}
use Rattle.mtrace_replay.proofs.Index.MappedLemmas.{no_span, mapped_behind, mapped_behind_none, next_between, more_between, all_between}
use Rattle.mtrace_replay.proofs.parts.span_rows.remove_between.Goals as goal

pub loop-at-init : goal.loop-at-init
loop-at-init c =
    let none : c.args.from - c.args.from ≡ 0 = omega arith in
    mapped_behind_none one_less c.args.from c.args.spans.now ∙ ap (λ many. mapped_behind one_less c.args.from many c.args.spans.now) (sym none)

pub loop-at-preserved : goal.loop-at-preserved
loop-at-preserved c =
    let at = c.loop-at.at in
    let next = ap (λ items. get_or items at no_span) c.loop-at.invariant ∙ next_between one_less c.args.from at c.args.spans.now no_span c.loop-at.auto.at in
    ap (λ items. slice_set items at c.without_one.result) c.loop-at.invariant
    ∙ ap (λ span. slice_set (mapped_behind one_less c.args.from (at - c.args.from) c.args.spans.now) at span) (c.without_one.ensures ∙ ap one_less next)
    ∙ more_between one_less c.args.from at c.args.spans.now no_span c.loop-at.auto.at (omega (arith, c.loop-at-test.true, c.requires.within))

pub returns : goal.returns
returns c low high rest parts from_is to_is =
    let end = c.loop-at.auto.at-end (omega (arith, from_is, to_is)) in
    c.loop-at.invariant ∙ all_between one_less low high rest c.args.spans.now c.args.from (c.loop-at.at - c.args.from) parts from_is (omega (arith, end, c.loop-at-test.false, from_is, to_is))
