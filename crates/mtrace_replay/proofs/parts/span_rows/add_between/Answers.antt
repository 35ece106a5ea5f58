-- Each span between the positions has a block more.
use Rattle.std.proofs.Common.{◌≡◌, ◌+◌, ◌-◌, ◌^◌, ◌<◌, get_or, arith, ap, sym, subst, ◌∙◌}
use Rattle.std.specs.Prelude.{slice_set}
use Rattle.mtrace_replay.specs.declared.parts.span.Span.{Span}
use Rattle.mtrace_replay.specs.Span.{one_more}
use Rattle.mtrace_replay.proofs.Index.MappedLemmas.{no_span, mapped_behind, mapped_behind_none, next_between, more_between, all_between}
use Rattle.mtrace_replay.proofs.parts.span_rows.add_between.Goals as goal

pub loop-at-init : goal.loop-at-init
loop-at-init c =
    let none : c.args.from - c.args.from ≡ 0 = omega arith in
    mapped_behind_none (one_more c.args.size) c.args.from c.args.spans.now ∙ ap (λ many. mapped_behind (one_more c.args.size) c.args.from many c.args.spans.now) (sym none)

pub with_one-requires : goal.with_one-requires
with_one-requires c =
    let next = ap (λ items. get_or items c.loop-at.at no_span) c.loop-at.invariant ∙ next_between (one_more c.args.size) c.args.from c.loop-at.at c.args.spans.now no_span c.loop-at.auto.at in
    record { few = subst (λ (span : Span). span.live + 1 < 2 ^ 64) (sym next) (c.requires.few c.loop-at.at no_span c.loop-at.auto.at c.loop-at-test.true) }

pub loop-at-preserved : goal.loop-at-preserved
loop-at-preserved c =
    let at = c.loop-at.at in
    let next = ap (λ items. get_or items at no_span) c.loop-at.invariant ∙ next_between (one_more c.args.size) c.args.from at c.args.spans.now no_span c.loop-at.auto.at in
    ap (λ items. slice_set items at c.with_one.result) c.loop-at.invariant
    ∙ ap (λ span. slice_set (mapped_behind (one_more c.args.size) c.args.from (at - c.args.from) c.args.spans.now) at span) (c.with_one.ensures ∙ ap (one_more c.args.size) next)
    ∙ more_between (one_more c.args.size) c.args.from at c.args.spans.now no_span c.loop-at.auto.at (omega (arith, c.loop-at-test.true, c.requires.within))

pub returns : goal.returns
returns c low high rest parts from_is to_is =
    let end = c.loop-at.auto.at-end (omega (arith, from_is, to_is)) in
    c.loop-at.invariant ∙ all_between (one_more c.args.size) low high rest c.args.spans.now c.args.from (c.loop-at.at - c.args.from) parts from_is (omega (arith, end, c.loop-at-test.false, from_is, to_is))
