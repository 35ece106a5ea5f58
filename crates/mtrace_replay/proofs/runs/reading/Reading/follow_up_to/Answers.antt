-- What was read and followed up to a line was so up to each before it.
use Rattle.std.proofs.Common.{arith, refl, ap, ◌∙◌}
use Rattle.std.specs.Prelude.{Err}
use Rattle.std.proofs.lemmas.Result.{err_from_is_err_and}
use Rattle.mtrace_replay.proofs.Running.ReplayingLemmas.{followed_on_none, followed_on_further}
use Rattle.mtrace_replay.proofs.runs.reading.Reading.follow_up_to.Goals as goal

pub loop-init : goal.loop-init
loop-init g c =
    let rules = g.P.LineReplay.rules in
    record {
      so_far = λ begin start before. followed_on_none (rules.Stands begin c.args.replay.now) c.args.self.now start (g.R.Source.shown c.args.reader.now) before;
      counted = c.requires.counted;
      ready = c.requires.ready;
      many = omega (arith, c.requires.counted, c.lines-counter.ensures);
      whole = refl;
      gave = λ start gave. gave;
      fixed = refl;
    }

pub loop-preserved : goal.loop-preserved
loop-preserved g c =
    let reads = g.R.Source.shown in
    let rules = g.P.LineReplay.rules in
    let kept = c.loop.invariant in
    let next = c.in_ok-follow_next.ensures in
    record {
      so_far = λ begin start before.
          let so_far = kept.so_far begin start before in
          followed_on_further (rules.Stands begin c.loop.replay) (rules.Stands begin c.follow_next.new.replay) before.lines c.loop.self c.follow_next.new.self start (reads c.loop.reader) (reads c.follow_next.new.reader)
          so_far (next.following begin start so_far.now);
      counted = next.counted;
      ready = next.ready;
      many = omega (arith, next.reached, kept.many);
      whole = next.whole ∙ kept.whole;
      gave = λ start gave. next.gave start (kept.gave start gave);
      fixed = next.fixed ∙ kept.fixed;
    }

pub returns-in_err-follow_next : goal.returns-in_err-follow_next
returns-in_err-follow_next g c =
    let kept = c.loop.invariant in
    let next = c.in_err-follow_next.ensures in
    let p = err_from_is_err_and c.from_residual.result c.from_residual.ensures.1 in
    rw (p.1 ∙ ap Err p.2) (record {
      counted = tt;
      ready = tt;
      reached = tt;
      following = tt;
      gave = tt;
      lacks = next.lacks;
      memory = λ is start gave. next.memory is start (kept.gave start gave);
      stops = λ other begin start many before gave up within.
          next.stops other begin start many (kept.so_far begin start before).now (kept.gave start gave) (omega (arith, kept.many, c.loop-test.true, up)) within;
      whole = next.whole ∙ kept.whole;
      fixed = next.fixed ∙ kept.fixed;
    })
