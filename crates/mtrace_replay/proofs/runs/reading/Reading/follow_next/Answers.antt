-- One line more was read and followed, or the reader stopped, or memory was refused.
use Rattle.std.proofs.Common.{arith, refl, sym, subst, ◌∙◌, reverse, inl}
use Rattle.std.specs.Prelude.{◌+◌, Ok, Err}
use Rattle.mtrace_log.specs.Progress.{Progress}
use Rattle.mtrace_replay.specs.declared.runs.reading.Stop.TheVariants.{Reader, Memory}
use Rattle.mtrace_replay.specs.Course.{course}
use Rattle.mtrace_replay.specs.Replaying.{FollowsUpTo}
use Rattle.mtrace_log.proofs.CallLemmas.{calls_more, calls_of_line, calls_to_end, calls_to_fault}
use Rattle.mtrace_replay.proofs.Running.ReplayingLemmas.{followed_on_line, followed_end, followed_fault}
use Rattle.mtrace_replay.proofs.Running.AgainLemmas.{ends_early, failed_in_piece}
use Rattle.mtrace_replay.proofs.runs.reading.Reading.follow_next.Goals as goal

pub returns-in-Ok-None : goal.returns-in-Ok-None
returns-in-Ok-None g c =
    let reads = g.R.Source.shown in
    let rules = g.P.LineReplay.rules in
    let found = rw c.in-Ok-None.field-0-is at c.in-Ok-None.ensures.end in
    let F : Progress → Type 0 = λ old. FollowsUpTo rules (old.count + 1) (Err Reader) old c.advance.new.self c.args.replay.now c.args.replay.now (course reads c.args.reader.now c.advance.new.reader) in
    subst F c.self.view_is (record {
      counted = tt;
      ready = tt;
      reached = tt;
      following = tt;
      gave = tt;
      lacks = λ is. absurd (cc);
      memory = λ is. absurd (cc);
      stops = λ other begin start many so_far gave up within.
          ends_early many (rules.Stands begin c.args.replay.now) c.self.inside.lines start (reads c.args.reader.now) (reads c.advance.new.reader)
          so_far (omega (arith, up))
          (followed_end reads (rules.Stands begin c.args.replay.now) c.self.inside.lines c.advance.new.self start c.args.reader.now c.advance.new.reader so_far found.1)
          (calls_to_end reads start.calls c.self.inside.lines c.advance.new.self c.args.reader.now c.advance.new.reader _ _ gave.0 c.in-Ok-None.ensures.calls found.0 found.1);
      whole = c.advance.ensures.whole;
      fixed = refl;
    })

pub returns-in-Err : goal.returns-in-Err
returns-in-Err g c =
    let reads = g.R.Source.shown in
    let rules = g.P.LineReplay.rules in
    let F : Progress → Type 0 = λ old. FollowsUpTo rules (old.count + 1) (Err Reader) old c.advance.new.self c.args.replay.now c.args.replay.now (course reads c.args.reader.now c.advance.new.reader) in
    subst F c.self.view_is (record {
      counted = tt;
      ready = tt;
      reached = tt;
      following = tt;
      gave = tt;
      lacks = λ is. absurd (cc);
      memory = λ is. absurd (cc);
      stops = λ other begin start many so_far gave up within.
          let came = calls_to_fault reads start.calls c.self.inside.lines c.advance.new.self c.args.reader.now c.advance.new.reader _ _ c.in-Err.field-0 gave.0 c.in-Err.ensures.calls c.in-Err.ensures.fault in
          let why = followed_fault reads (rules.Stands begin c.args.replay.now) c.self.inside.lines c.advance.new.self start c.args.reader.now c.advance.new.reader c.in-Err.field-0
          so_far c.in-Err.ensures.fault c.in-Err.ensures.nothing_held came in
          inl (so_far.lines, omega (arith, so_far.count, up), failed_in_piece start (reads c.advance.new.reader) so_far.lines (omega (arith, so_far.count, up, within)) why);
      whole = c.advance.ensures.whole;
      fixed = refl;
    })

-- memory was refused
pub returns-in_default : goal.returns-in_default
returns-in_default g c =
    let reads = g.R.Source.shown in
    let rules = g.P.LineReplay.rules in
    let given = (rw c.in-Ok-Some.field-0-is at c.in-Ok-Some.ensures.line) c.event.result c.event.ensures in
    let F : Progress → Type 0 = λ old. FollowsUpTo rules (old.count + 1) (Err Memory) old c.advance.new.self c.args.replay.now c.take_line.new.self (course reads c.args.reader.now c.advance.new.reader) in
    subst F c.self.view_is (record {
      counted = tt;
      ready = tt;
      reached = tt;
      following = tt;
      gave = tt;
      lacks = λ is. c.in_default.ensures.memory;
      memory = λ is start gave.
          calls_of_line c.advance.new.self.stage _ _ _ _ _ given.taken
          (calls_more c.self.inside.lines.stage c.advance.new.self.stage _ _ _ given.was_reading gave.0 c.in-Ok-Some.ensures.calls);
      stops = λ other. absurd (other refl);
      whole = c.in-Ok-Some.ensures.whole;
      fixed = c.in_default.ensures.fixed;
    })

pub returns : goal.returns
returns g c =
    let reads = g.R.Source.shown in
    let rules = g.P.LineReplay.rules in
    let given = (rw c.in-Ok-Some.field-0-is at c.in-Ok-Some.ensures.line) c.event.result c.event.ensures in
    let taken = c.in-Ok.ensures in
    let F : Progress → Type 0 = λ old. FollowsUpTo rules (old.count + 1) (Ok tt) old c.advance.new.self c.args.replay.now c.take_line.new.self (course reads c.args.reader.now c.advance.new.reader) in
    subst F c.self.view_is (record {
      counted = taken.counted ∙ sym given.count;
      ready = taken.ready;
      reached = given.count ∙ given.number;
      following = λ begin start so_far. followed_on_line (rules.Stands begin c.args.replay.now) (rules.Stands begin c.take_line.new.self) c.self.inside.lines c.advance.new.self
          start (reads c.args.reader.now) (reads c.advance.new.reader) (record { number = c.in-Ok-Some.number; event = c.event.result })
          so_far given (taken.stands begin (reverse so_far.lines) so_far.stands);
      gave = λ start gave.
          let more = calls_more c.self.inside.lines.stage c.advance.new.self.stage _ _ _ given.was_reading gave.0 c.in-Ok-Some.ensures.calls in
          (more, calls_of_line c.advance.new.self.stage _ _ _ _ _ given.taken more);
      lacks = tt;
      memory = tt;
      stops = tt;
      whole = c.in-Ok-Some.ensures.whole;
      fixed = taken.fixed;
    })
