-- A line that isn't served only releases; one that is also gives.
use Rattle.std.proofs.Common.{◌∷◌, None, sym, subst, nat_eq}
use Rattle.std.specs.Prelude.{Some, if◌then◌else◌}
use Rattle.std.specs.HashMap.{get}
use Rattle.mtrace_replay.specs.Spans.{AreCountedOf, range_released}
use Rattle.mtrace_replay.proofs.BySize.CountedLemmas.{followed_unserved, followed_served, followed_few}
use Rattle.mtrace_replay.proofs.parts.replay.count.Goals as goal

pub returns-then-not-is_served-clause-counted : goal.returns-then-not-is_served-clause-counted
returns-then-not-is_served-clause-counted c past line is counted =
    followed_unserved c.args.change.now c.args.is_served line past is c.args.spans.now c.follow.new.self c.released-freed.result c.released-freed.ensures counted
    c.if-not-is_served.true c.in_ok-follow.ensures.spans c.in_ok-follow.ensures.ranges

pub returns-then-not-is_served-clause-few : goal.returns-then-not-is_served-clause-few
returns-then-not-is_served-clause-few c lines few =
    followed_few (range_released (get nat_eq c.args.spans.now.ranges) c.released-freed.result) None c.args.spans.now.all c.follow.new.self.all c.in_ok-follow.ensures.spans lines few

pub returns-clause-counted : goal.returns-clause-counted
returns-clause-counted c past line is counted =
    subst (λ b. AreCountedOf (line ∷ past) (if b then Some c.follow-2.new.self else None)) (sym c.is_some.ensures)
    (followed_served c.args.change.now c.args.is_served line past is c.args.spans.now c.follow-2.new.self c.released-freed.result c.released-freed.ensures counted
    c.block-given.result c.block-given.ensures c.if-not-is_served.false c.in_ok-follow-2.ensures.spans c.in_ok-follow-2.ensures.ranges)

pub returns-clause-few : goal.returns-clause-few
returns-clause-few c lines few =
    followed_few (range_released (get nat_eq c.args.spans.now.ranges) c.released-freed.result) c.block-given.result c.args.spans.now.all c.follow-2.new.self.all c.in_ok-follow-2.ensures.spans lines few
