-- The span of the part's ranges has its size and blocks.
use Rattle.std.proofs.Common.{ap, ◌∙◌, arith}
use Rattle.mtrace_replay.specs.declared.parts.span.Span.{Span}
use Rattle.mtrace_replay.proofs.parts.run.part_at.Goals as goal

pub returns : goal.returns
returns c part in_spans ordered within =
    let has = in_spans.all c.args.first c.args.last ordered within in
    let at = has.1 in
    absurd (c.loop-span.invariant at.0 has.0 (omega (arith, at.1, c.loop-span-test.false)) (ap (λ (span : Span). span.first) at.2 ∙ has.2) (ap (λ (span : Span). span.last) at.2 ∙ has.3))
