use Rattle.std.proofs.Common.{◌<◌, List, arith, rules, refl, sym, ap, subst, ◌∙◌}
use Rattle.mtrace_replay.specs.declared.heap.settings.Settings.{Settings}
use Rattle.mtrace_replay.specs.declared.heap.totals.Totals.{Totals}
use Rattle.mtrace_replay.specs.Moment.{ReadLine}
use Rattle.mtrace_replay.specs.Replay.{heap_rules}
use Rattle.mtrace_replay.specs.Fronted.{fronted_rules}
use Rattle.mtrace_replay.specs.Replaying.{IsFollowed}
use Rattle.mtrace_replay.proofs.Running.ReplayingLemmas.{followed_start}
use Rattle.mtrace_replay.proofs.Running.TriedLemmas.{tried_served, tried_refused, none_begun}
use Rattle.mtrace_replay.proofs.heap.tried.is_served.Goals as goal

pub loop-init : goal.loop-init
loop-init g c =
    let reads = g.R.Source.shown in
    let S : Settings → List ReadLine → Type 0 = λ settings. (fronted_rules heap_rules).Stands (c.args.tried.now.front, settings) c.args.tried.now in
    record {
      so_far = λ settings stands.
          subst (λ progress. IsFollowed (S settings) progress (reads c.args.reader.now) (reads c.args.reader.now)) (sym c.new-reading.ensures) (followed_start (S settings) (reads c.args.reader.now) (refl, stands));
      counted = search rules;
      many = search rules;
      served = c.requires.none;
      whole = refl;
      gave = search rules;
      records = refl;
    }

pub loop-preserved : goal.loop-preserved
loop-preserved g c =
    let kept = c.loop.invariant in
    let next = c.in-Ok.ensures in
    let gave = next.gave (g.R.Source.shown c.args.reader.now) kept.gave in
    record {
      so_far = λ settings stands. (next.following (c.args.tried.now.front, settings) _ (kept.so_far settings stands)).now;
      counted = next.counted;
      many = omega (arith, next.reached, kept.many);
      served = omega (arith, ap (λ (totals : Totals). totals.refused) c.totals.ensures.totals, c.if-totals-gt0.false);
      whole = next.whole ∙ kept.whole;
      gave = gave;
      records = next.fixed ∙ kept.records;
    }

-- the reader stopped, since a heap lacks no memory
pub returns-in-Err : goal.returns-in-Err
returns-in-Err g c =
    let reads = g.R.Source.shown in
    let kept = c.loop.invariant in
    let next = c.in-Err.ensures in
    record {
      tried = tt;
      begun = tt;
      read = λ settings stands.
          next.stops next.lacks (c.args.tried.now.front, settings) (reads c.args.reader.now) c.args.many (kept.so_far settings stands) kept.gave (omega (arith, kept.many, c.loop-test.true)) (omega (arith, c.ranges.many.fits));
      whole = next.whole ∙ kept.whole;
      records = next.fixed ∙ kept.records;
    }

pub returns-then-totals-gt0 : goal.returns-then-totals-gt0
returns-then-totals-gt0 g c =
    let reads = g.R.Source.shown in
    let kept = c.loop.invariant in
    let next = c.in-Ok.ensures in
    record {
      tried = λ settings stands.
          let some : 0 < c.totals.result.refused = c.if-totals-gt0.true in
          tried_refused c.args.tried.now.front c.args.many settings c.follow_next.new.self c.follow_next.new.replay (reads c.args.reader.now) (reads c.follow_next.new.reader)
          (next.following (c.args.tried.now.front, settings) _ (kept.so_far settings stands)).now c.holds_few.ensures
          (omega (arith, next.reached, kept.many, c.loop-test.true))
          (subst (λ n. 0 < n) (ap (λ (totals : Totals). totals.refused) c.totals.ensures.totals) some);
      begun = none_begun (reads c.args.reader.now).calls (reads c.follow_next.new.reader).calls (next.gave (reads c.args.reader.now) kept.gave).1;
      read = tt;
      whole = next.whole ∙ kept.whole;
      records = next.fixed ∙ kept.records;
    }

pub returns : goal.returns
returns g c =
    let kept = c.loop.invariant in
    record {
      tried = λ settings stands.
          tried_served c.args.tried.now.front c.args.many settings c.loop.reading c.loop.tried (g.R.Source.shown c.args.reader.now) (g.R.Source.shown c.loop.reader) (kept.so_far settings stands) c.holds_few-2.ensures
          (omega (arith, kept.many, c.loop-test.false, c.loop.auto.counter-end)) kept.served;
      begun = none_begun (g.R.Source.shown c.args.reader.now).calls (g.R.Source.shown c.loop.reader).calls kept.gave.1;
      read = tt;
      whole = kept.whole;
      records = kept.records;
    }
