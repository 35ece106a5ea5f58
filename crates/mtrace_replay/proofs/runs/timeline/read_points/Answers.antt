use Rattle.std.proofs.Common.{◌≡◌, ◌+◌, ◌≤◌, suc, List, [], ◌∷◌, ◌++◌, take, sym, ap, subst, ◌∙◌, arith}
use Rattle.std.proofs.Math.ListN.{get_or}
use Rattle.std.proofs.lemmas.List.{take_all}
use Rattle.mtrace_log.specs.Trace.{HasNotFailed}
use Rattle.mtrace_log.specs.declared.call.Call.{Call}
use Rattle.mtrace_replay.specs.declared.heap.point.Point.{Point}
use Rattle.mtrace_replay.specs.Replay.{Replayed, StandsFor}
use Rattle.mtrace_log.specs.Shown.{Bytes}
use Rattle.mtrace_replay.specs.Again.{HasReadFirst}
use Rattle.mtrace_replay.specs.Texts.{greatest}
use Rattle.mtrace_replay.proofs.Running.AgainLemmas.{read_first}
use Rattle.mtrace_replay.proofs.Running.Points.{Gathers, greatest_taken, up_to_next, gathers_more, lines_more, within_more}
use Rattle.mtrace_replay.proofs.Running.TriedLemmas.{fails_again}
use Rattle.mtrace_replay.proofs.runs.timeline.read_points.Goals as goal

pub follow_up_to-requires-clause-ahead : goal.follow_up_to-requires-clause-ahead
follow_up_to-requires-clause-ahead g c =
    let numbers = c.args.numbers.now in
    omega (arith, c.loop-number.invariant.reached, up_to_next numbers c.loop-number.number-index c.requires.rising c.loop-number-test.true)

-- the reader stopped, since a heap lacks no memory
pub returns-in-Err : goal.returns-in-Err
returns-in-Err g c =
    let reads = g.R.Source.shown in
    let kept = c.loop-number.invariant in
    let began = c.in_ok-begin.ensures in
    let read = c.in-Err.ensures in
    record {
      done = tt;
      not_failed = tt;
      fails = λ settings many stands all within.
          fails_again many (reads c.args.reader.now) (reads c.begin.new.self) (reads c.follow_up_to.new.reader) began.left began.whole began.told
          (read.stops read.lacks settings (reads c.begin.new.self) many (kept.so_far settings stands).now kept.gave (all c.loop-number.number-index 0 c.loop-number-test.true) within);
    }

pub loop-number-preserved : goal.loop-number-preserved
loop-number-preserved g c =
    let reads = g.R.Source.shown in
    let kept = c.loop-number.invariant in
    let numbers = c.args.numbers.now in
    let index = c.loop-number.number-index in
    let points = c.loop-number.points.items in
    let point = c.point_after.result in
    let read = c.in-Ok.ensures in
    let replay = c.follow_up_to.new.replay in
    let touches = c.point_after.new.replay.touches in
    let items = c.push_reserved.ensures.items in
    let number = get_or numbers index 0 in
    let line : point.line ≡ number = c.point_after.ensures.line ∙ read.counted ∙ read.reached in
    let up : c.loop-number.reading.count ≤ c.follow_up_to.new.self.count = omega (arith, kept.reached, up_to_next numbers index c.requires.rising c.loop-number-test.true, read.reached) in
    record {
      so_far = λ settings stands.
          let so_far = kept.so_far settings stands in
          let G : List Point → Replayed → Type 0 = λ all now. Gathers settings all c.follow_up_to.new.self now (reads c.begin.new.self) (reads c.follow_up_to.new.reader) in
          let more = gathers_more settings points point c.loop-number.reading c.follow_up_to.new.self c.loop-number.replay replay touches (reads c.begin.new.self) (reads c.loop-number.reader) (reads c.follow_up_to.new.reader)
          so_far (read.following settings (reads c.begin.new.self) so_far.now) kept.within (c.point_after.ensures.line ∙ read.counted) (c.point_after.ensures.point settings) in
          let all_are : points ++ point ∷ [] ≡ c.push_reserved.new.self.items = sym items in
          subst (λ all. G all c.point_after.new.replay) all_are (subst (G (points ++ point ∷ [])) (sym c.point_after.ensures.kept) more);
      told = lines_more (λ (one : Point). one.line) numbers index points point c.push_reserved.new.self.items kept.told items line c.loop-number-test.true;
      within = within_more (λ (one : Point). one.line) c.loop-number.reading.count c.follow_up_to.new.self.count points point c.push_reserved.new.self.items items kept.within up (omega (arith, line, read.reached));
      reached = read.reached ∙ sym (greatest_taken numbers index c.requires.rising c.loop-number-test.true) ∙ ap (λ n. greatest (take n numbers)) (let next : suc index ≡ index + 1 = omega arith in next);
      counted = ap (λ (one : Replayed). one.totals.lines) c.point_after.ensures.kept ∙ read.counted;
      whole = read.whole ∙ kept.whole;
      gave = read.gave (reads c.begin.new.self) kept.gave;
      many = omega (arith, c.push_reserved.ensures.len, kept.many);
      room = omega (arith, c.push_reserved.ensures.capacity, kept.room);
    }

pub returns : goal.returns
returns g c =
    let reads = g.R.Source.shown in
    let kept = c.loop-number.invariant in
    let began = c.in_ok-begin.ensures in
    let numbers = c.args.numbers.now in
    let index = c.loop-number.number-index in
    let all : take index numbers ≡ numbers = take_all index numbers (omega (arith, c.loop-number-test.false)) in
    record {
      done = λ settings stands.
          let so_far = kept.so_far settings stands in
          let P : Bytes → Type 0 = λ start. HasReadFirst (greatest numbers) start (reads c.loop-number.reader).left so_far.now.lines in
          let first = read_first (StandsFor c.loop-number.replay settings) c.loop-number.reading (reads c.begin.new.self) (reads c.loop-number.reader) so_far.now c.holds_few.ensures in
          record {
            again = so_far.now.lines;
            read = subst P began.left (subst (λ n. HasReadFirst n (reads c.begin.new.self).left (reads c.loop-number.reader).left so_far.now.lines) (kept.reached ∙ ap greatest all) first);
            told = kept.told ∙ all;
            exact = so_far.exact;
          };
      not_failed = (let P : List Call → Type 0 = λ calls. HasNotFailed calls (reads c.loop-number.reader).calls in subst P began.told kept.gave.1);
      fails = tt;
    }
