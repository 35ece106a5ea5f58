-- What has changed is told line by line.
use Rattle.std.proofs.Common.{◌≡◌, ◌+◌, ◌≤◌, ℕ, suc, [], length, take, reverse, sym, ap, subst, ◌∙◌, arith, inl, refl}
use Rattle.std.proofs.lemmas.List.{take_all}
use Rattle.mtrace_log.specs.Progress.{Progress}
use Rattle.mtrace_log.specs.declared.call.Call.TheVariants.{Gave, Took}
use Rattle.mtrace_log.proofs.TraceLemmas.{moved_none}
use Rattle.mtrace_log.proofs.Writing.{Wrote-nothing}
use Rattle.mtrace_replay.specs.declared.runs.reading.Stop.TheVariants.{Reader, Memory}
use Rattle.mtrace_replay.specs.MarkedReplay.{MarkedStandsFor}
use Rattle.mtrace_replay.specs.Replaying.{HasGivenSo}
use Rattle.mtrace_replay.specs.RunSiteTimeline.{last_told}
use Rattle.mtrace_replay.specs.SiteTimeline.{ChangesOf}
use Rattle.mtrace_replay.specs.Texts.{greatest}
use Rattle.mtrace_replay.proofs.Running.Points.{greatest_taken, up_to_next}
use Rattle.mtrace_replay.proofs.Running.ReplayingLemmas.{followed_start}
use Rattle.mtrace_replay.proofs.OnLedger.SiteTimelineLemmas.{HasTold, IsTelling, first_changes, numbers_more, put_fails, telling_more}
use Rattle.mtrace_replay.proofs.ledger.site_timeline.tell_lines.Goals as goal

pub loop-number-init : goal.loop-number-init
loop-number-init g c =
    let start = g.R.Source.shown c.args.reader.now in
    let writer = g.W.Sink.shown c.args.writer.now in
    let stands = MarkedStandsFor c.new-replay.result in
    record {
      so_far = record {
        text = [];
        has = subst (λ (lines : Progress). HasTold [] [] stands lines start start) (sym c.new-reading.ensures)
            (record { now = followed_start stands start c.new-replay.ensures.stands; told = refl; within = tt });
        put = record { wrote = Wrote-nothing writer; took = moved_none Took writer.calls };
      };
      reached = ap (λ (lines : Progress). lines.count) c.new-reading.ensures;
      counted = c.new-replay.ensures.stands.lines_are ∙ sym (ap (λ (lines : Progress). lines.count) c.new-reading.ensures);
      mark = c.new-replay.ensures.mark;
      few = omega (arith, ap (λ (lines : Progress). length lines.held) c.new-reading.ensures);
      gave = subst (λ (lines : Progress). HasGivenSo lines.stage start start) (sym c.new-reading.ensures) (moved_none Gave start.calls, inl (moved_none Gave start.calls));
    }

pub follow_up_to-requires-clause-counted : goal.follow_up_to-requires-clause-counted
follow_up_to-requires-clause-counted g c = c.loop-number.invariant.counted

pub follow_up_to-requires-clause-ahead : goal.follow_up_to-requires-clause-ahead
follow_up_to-requires-clause-ahead g c =
    omega (arith, c.loop-number.invariant.reached, up_to_next c.args.numbers.now c.loop-number.number-index c.requires.rising c.loop-number-test.true)

-- memory was refused for a line
pub returns-in-Err-Memory : goal.returns-in-Err-Memory
returns-in-Err-Memory g c =
    let reads = g.R.Source.shown in
    let writes = g.W.Sink.shown in
    let kept = c.loop-number.invariant in
    let reader = reads c.loop-number.reader in (
      kept.so_far.text,
      record {
        many = c.loop-number.number-index;
        after = reader.left;
        changes = first_changes c.args.numbers.now c.loop-number.number-index c.loop-number.replay c.loop-number.reading (reads c.args.reader.now) reader (writes c.args.writer.now) (writes c.loop-number.writer)
            kept.so_far kept.few kept.reached;
      },
      kept.so_far.put,
      c.in-Err-Memory.ensures.memory c.in-Err-Memory.field-0-is (reads c.args.reader.now) kept.gave,
    )

-- the reader stopped
pub returns-in-Err-Reader : goal.returns-in-Err-Reader
returns-in-Err-Reader g c =
    let reads = g.R.Source.shown in
    let writes = g.W.Sink.shown in
    let kept = c.loop-number.invariant in
    let reader = reads c.loop-number.reader in (
      kept.so_far.text,
      record {
        many = c.loop-number.number-index;
        after = reader.left;
        changes = first_changes c.args.numbers.now c.loop-number.number-index c.loop-number.replay c.loop-number.reading (reads c.args.reader.now) reader (writes c.args.writer.now) (writes c.loop-number.writer)
            kept.so_far kept.few kept.reached;
      },
      kept.so_far.put,
      λ many all within.
          c.in-Err-Reader.ensures.stops (λ is. let clash : Reader ≡ Memory = sym c.in-Err-Reader.field-0-is ∙ is in cc) tt (reads c.args.reader.now) many kept.so_far.has.now kept.gave
          (all c.loop-number.number-index 0 c.loop-number-test.true) within,
    )

-- what has changed wasn't put
pub returns-in-Err : goal.returns-in-Err
returns-in-Err g c =
    let reads = g.R.Source.shown in
    let writes = g.W.Sink.shown in
    let kept = c.loop-number.invariant in
    let numbers = c.args.numbers.now in
    let index = c.loop-number.number-index in
    let read = c.in-Ok.ensures in
    let start = reads c.args.reader.now in
    let up : c.loop-number.reading.count ≤ c.follow_up_to.new.self.count = omega (arith, kept.reached, up_to_next numbers index c.requires.rising c.loop-number-test.true, read.reached) in
    put_fails numbers index c.loop-number-test.true c.loop-number.replay c.follow_up_to.new.replay c.loop-number.reading c.follow_up_to.new.self start (reads c.loop-number.reader) (reads c.follow_up_to.new.reader)
    (writes c.args.writer.now) (writes c.loop-number.writer) kept.so_far (read.following tt start kept.so_far.has.now) read.reached up (read.fixed ∙ kept.mark)
    kept.few kept.reached c.holds_few.ensures (greatest_taken numbers index c.requires.rising c.loop-number-test.true ∙ sym read.reached) (read.gave start kept.gave).1
    c.in-Err.fault (writes c.put_changes.new.writer) c.in-Err.ensures

pub loop-number-preserved : goal.loop-number-preserved
loop-number-preserved g c =
    let reads = g.R.Source.shown in
    let writes = g.W.Sink.shown in
    let kept = c.loop-number.invariant in
    let numbers = c.args.numbers.now in
    let index = c.loop-number.number-index in
    let read = c.in-Ok.ensures in
    let start = reads c.args.reader.now in
    let put = c.in-Ok-put_changes.ensures in
    let next : suc index ≡ index + 1 = omega arith in
    let up : c.loop-number.reading.count ≤ c.follow_up_to.new.self.count = omega (arith, kept.reached, up_to_next numbers index c.requires.rising c.loop-number-test.true, read.reached) in
    let T : ℕ → Type 0 = λ many. IsTelling (take many numbers) c.mark_last.new.self c.follow_up_to.new.self start (reads c.follow_up_to.new.reader) (writes c.args.writer.now) (writes c.put_changes.new.writer) in
    record {
      so_far = subst T next (telling_more numbers index c.loop-number-test.true c.loop-number.replay c.follow_up_to.new.replay c.loop-number.reading c.follow_up_to.new.self start (reads c.loop-number.reader)
          (reads c.follow_up_to.new.reader) (writes c.args.writer.now) (writes c.loop-number.writer) kept.so_far (read.following tt start kept.so_far.has.now) read.reached up (read.fixed ∙ kept.mark)
          put.0 put.1 c.mark_last.new.self (writes c.put_changes.new.writer) c.mark_last.ensures.stands put.2);
      reached = read.reached ∙ sym (greatest_taken numbers index c.requires.rising c.loop-number-test.true) ∙ ap (λ n. greatest (take n numbers)) next;
      counted = c.mark_last.ensures.lines ∙ read.counted;
      mark = c.mark_last.ensures.mark ∙ read.counted ∙ read.reached ∙ sym (ap last_told (numbers_more numbers index c.loop-number-test.true)) ∙ ap (λ n. last_told (reverse (take n numbers))) next;
      few = c.holds_few.ensures;
      gave = read.gave start kept.gave;
    }

pub returns : goal.returns
returns g c =
    let reads = g.R.Source.shown in
    let writes = g.W.Sink.shown in
    let kept = c.loop-number.invariant in
    let numbers = c.args.numbers.now in
    let index = c.loop-number.number-index in
    let start = reads c.args.reader.now in
    let reader = reads c.loop-number.reader in
    let all : take index numbers ≡ numbers = take_all index numbers (omega (arith, c.loop-number-test.false)) in (
      kept.so_far.text,
      subst (λ ns. ChangesOf ns start.left reader.left kept.so_far.text) all
          (first_changes numbers index c.loop-number.replay c.loop-number.reading start reader (writes c.args.writer.now) (writes c.loop-number.writer) kept.so_far kept.few kept.reached),
      kept.so_far.put,
      kept.gave.1,
    )
