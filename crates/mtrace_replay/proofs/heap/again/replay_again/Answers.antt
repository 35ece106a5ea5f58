-- The first lines were replayed, or the reader stopped.
use Rattle.std.proofs.Common.{arith, subst}
use Rattle.std.specs.Prelude.{Ok, Err}
use Rattle.mtrace_log.specs.Progress.{Progress}
use Rattle.mtrace_replay.specs.Course.{course}
use Rattle.mtrace_replay.specs.Replay.{heap_rules}
use Rattle.mtrace_replay.specs.Replaying.{FollowsUpTo}
use Rattle.mtrace_replay.proofs.Running.AgainLemmas.{first_done, first_failed, has_begun}
use Rattle.mtrace_replay.proofs.heap.again.replay_again.Goals as goal

pub returns-in-Ok : goal.returns-in-Ok
returns-in-Ok g c =
    let reads = g.R.Source.shown in
    let new = c.follow_up_to.new in
    let reader = course reads c.begin.new.self new.reader in
    let began = has_begun (reads c.args.reader.now) (reads c.begin.new.self) c.in_ok-begin.ensures.left c.in_ok-begin.ensures.whole c.in_ok-begin.ensures.told in
    let P : Progress → Type 0 = λ lines. FollowsUpTo heap_rules c.args.many (Ok tt) lines new.self c.args.replay.now new.replay reader in
    first_done c.args.replay.now (reads c.args.reader.now) reader began c.args.many _ new.self new.replay c.holds_few.ensures (subst P c.new-reading.ensures c.in-Ok.ensures)

pub returns-in-Err : goal.returns-in-Err
returns-in-Err g c =
    let reads = g.R.Source.shown in
    let new = c.follow_up_to.new in
    let reader = course reads c.begin.new.self new.reader in
    let began = has_begun (reads c.args.reader.now) (reads c.begin.new.self) c.in_ok-begin.ensures.left c.in_ok-begin.ensures.whole c.in_ok-begin.ensures.told in
    let P : Progress → Type 0 = λ lines. FollowsUpTo heap_rules c.args.many (Err c.in-Err.field-0) lines new.self c.args.replay.now new.replay reader in
    first_failed c.args.replay.now (reads c.args.reader.now) reader began c.args.many _ _ new.self new.replay (omega (arith, c.ranges.many.fits)) (subst P c.new-reading.ensures c.in-Err.ensures)
