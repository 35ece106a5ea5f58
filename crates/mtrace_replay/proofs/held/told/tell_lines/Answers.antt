-- Each stretch adds its end, and the peak's line where it comes before that.
use Rattle.std.proofs.Common.{◌≡◌, ◌+◌, ap, ◌∙◌, arith, vec_len}
use Rattle.mtrace_replay.specs.Timeline.{end_of_stretch}
use Rattle.mtrace_replay.proofs.Told.ToldLines.{told_by_part, counts_of_stretch, ends_rise, told_all}
use Rattle.mtrace_replay.proofs.held.told.tell_lines.Goals as goal

pub loop-stretch-preserved : goal.loop-stretch-preserved
loop-stretch-preserved c =
    let kept = c.loop-stretch.invariant in
    let one = c.tell-last in
    let two = c.tell-last-in-loop-stretch in
    let lines = c.args.lines in
    let stretches = c.args.stretches in
    let stretch = c.loop-stretch.stretch in
    let later = ends_rise lines stretches stretch (stretch + 1) c.requires.some (omega arith) in
    let last_is : two.result ≡ end_of_stretch lines stretches (stretch + 1)
    = omega (arith, two.ensures.last, one.ensures.last, c.min.ensures, c.end_of_stretch-end.ensures, kept.last_is, later) in
    let counts = counts_of_stretch c.loop-stretch.last c.min.result c.end_of_stretch-end.result one.result c.args.peak stretch (vec_len c.loop-stretch.numbers) (vec_len one.new.numbers) (vec_len two.new.numbers)
    c.min.ensures one.ensures.last (omega (arith, kept.last_is, c.end_of_stretch-end.ensures, later)) one.ensures.one_more one.ensures.as_many two.ensures.one_more two.ensures.as_many kept.early kept.few in
    record {
      told = told_by_part lines c.args.peak stretches stretch c.loop-stretch.numbers.items one.new.numbers.items two.new.numbers.items c.loop-stretch.last c.min.result c.end_of_stretch-end.result one.result two.result
          c.requires.some (omega (arith, c.loop-stretch-test.true)) kept.told kept.last_is c.end_of_stretch-end.ensures c.min.ensures one.ensures.told one.ensures.last two.ensures.told last_is;
      last_is = last_is;
      early = λ before. counts.0 (omega (arith, before, last_is, c.end_of_stretch-end.ensures));
      few = counts.1;
      room = omega (arith, kept.room, one.ensures.capacity, two.ensures.capacity);
    }

pub returns-clause-told : goal.returns-clause-told
returns-clause-told c =
    let kept = c.loop-stretch.invariant in
    let end = ap (end_of_stretch c.args.lines c.args.stretches) (omega (arith, c.loop-stretch-test.false, c.loop-stretch.auto.stretch-end)) in
    told_all c.args.lines c.args.peak c.args.stretches c.loop-stretch.last c.loop-stretch.numbers.items c.requires.some (kept.last_is ∙ end) kept.told
