-- No part serves exactly the ranges without a request.
use Rattle.std.proofs.Common.{length, ◌≤◌, sym, subst, arith}
use Rattle.mtrace_replay.proofs.BySize.CutLemmas.{empty_best, empty_none}
use Rattle.mtrace_replay.proofs.parts.cut.empty_from.Goals as goal

pub returns-then-is_unused_from-clause-best : goal.returns-then-is_unused_from-clause-best
returns-then-is_unused_from-clause-best c part in_spans =
    empty_best part c.args.spans.now c.args.first in_spans c.no_parts.result c.no_parts.ensures.ends c.no_parts.ensures.bytes c.no_parts.ensures.unbuilt (c.is_unused_from.ensures.unused c.if-is_unused_from.true)

pub returns-then-is_unused_from-clause-small : goal.returns-then-is_unused_from-clause-small
returns-then-is_unused_from-clause-small c =
    (subst (λ ends. length ends ≤ 0) (sym c.no_parts.ensures.ends) (omega arith), omega (arith, c.no_parts.ensures.bytes), omega (arith, c.no_parts.ensures.unbuilt))

pub returns-clause-best : goal.returns-clause-best
returns-clause-best c part in_spans =
    let used = c.is_unused_from.ensures.used c.if-is_unused_from.false in
    empty_none part c.args.spans.now c.args.first in_spans used.0 used.1 used.2
