-- The first end that isn't below the size.
use Rattle.std.proofs.Common.{arith}
use Rattle.std.proofs.lemmas.Bool.{le-leb}
use Rattle.mtrace_replay.proofs.BySize.RangeLemmas.{range_is}
use Rattle.mtrace_replay.proofs.parts.range.range_of.Goals as goal

pub returns-else-end-from : goal.returns-else-end-from
returns-else-end-from c =
    let kept = c.loop-range.invariant in
    range_is c.args.size c.loop-range.range kept.few kept.before
    (λ more. le-leb _ _ (omega (arith, c.if-end-from.false, c.from.ensures, kept.end_is)))

pub returns-after-loop-range : goal.returns-after-loop-range
returns-after-loop-range c =
    let kept = c.loop-range.invariant in
    range_is c.args.size c.loop-range.range kept.few kept.before (λ more. absurd (omega (arith, more, c.loop-range-test.false)))
