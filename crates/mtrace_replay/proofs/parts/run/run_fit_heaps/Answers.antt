-- A number of heaps that isn't bad, so the log is read.
use Rattle.std.proofs.Common.{List, reverse, subst, inr, refl, arith}
use Rattle.std.specs.Prelude.{Ok, Err}
use Rattle.mtrace_replay.specs.Moment.{ReadLine}
use Rattle.mtrace_replay.specs.LedgerReplay.{LedgerStandsFor}
use Rattle.mtrace_replay.specs.Spans.{AreCountedOf}
use Rattle.mtrace_replay.specs.Fronted.{fronted}
use Rattle.mtrace_replay.proofs.Running.FrontedLemmas.{fronted_reversed}
use Rattle.mtrace_replay.proofs.BySize.PartsRun.{not_bad_heaps}
use Rattle.mtrace_replay.proofs.parts.run.run_fit_heaps.Goals as goal

pub tell_parts-requires-clause-lines : goal.tell_parts-requires-clause-lines
tell_parts-requires-clause-lines g c =
    let last = c.in-Ok-follow_counted.ensures.last in
    let all : List ReadLine = fronted c.args.front last.reports.lines in
    let same = fronted_reversed c.args.front last.reports.lines in (
      all,
      subst (λ past. LedgerStandsFor c.follow_counted.new.fronted.replay.ledger past) same last.stands,
      subst (λ past. AreCountedOf past c.follow_counted.new.fronted.replay.spans) same last.counted,
    )

pub returns-in-Ok-follow_counted : goal.returns-in-Ok-follow_counted
returns-in-Ok-follow_counted g c =
    let last = c.in-Ok-follow_counted.ensures.last in
    let all : List ReadLine = fronted c.args.front last.reports.lines in
    let same = fronted_reversed c.args.front last.reports.lines in
    let stands : LedgerStandsFor c.follow_counted.new.fronted.replay.ledger (reverse all) = subst (λ past. LedgerStandsFor c.follow_counted.new.fronted.replay.ledger past) same last.stands in
    let counted : AreCountedOf (reverse all) c.follow_counted.new.fronted.replay.spans = subst (λ past. AreCountedOf past c.follow_counted.new.fronted.replay.spans) same last.counted in
    record {
      bad_heaps = λ bad. absurd (not_bad_heaps c.args.heaps (omega (arith, c.if-heaps-eq0)) (omega (arith, c.if-heaps-gt8)) bad);
      runs = λ good. inr (record {
        run = Ok c.in-Ok-follow_counted.status;
        reader_middle = c.follow_counted.new.reader;
        writer_middle = c.follow_counted.new.writer;
        runs = c.in-Ok-follow_counted.ensures.ran;
        goes_on = record {
          reports = last.reports;
          answer = c.tell_parts.ensures.answer;
          follow = (refl, c.tell_parts.ensures.told all stands counted);
        };
      });
    }

pub returns : goal.returns
returns g c = record {
  bad_heaps = λ bad. absurd (not_bad_heaps c.args.heaps (omega (arith, c.if-heaps-eq0)) (omega (arith, c.if-heaps-gt8)) bad);
  runs = λ good. inr (record {
    run = Err c.in-Err.fault;
    reader_middle = c.follow_counted.new.reader;
    writer_middle = c.follow_counted.new.writer;
    runs = c.in-Err.ensures.ran;
    goes_on = (refl, (refl, refl));
  });
}
