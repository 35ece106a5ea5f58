-- Memory, settings or stretches fail before the log is read.
use Rattle.std.proofs.Common.{rules, arith, refl}
use Rattle.std.specs.Prelude.{Ok}
use Rattle.mtrace_replay.specs.RunTimeline.{TimelineFollows}
use Rattle.mtrace_replay.proofs.Running.RunsAgain.{again_undone, not_bad}
use Rattle.mtrace_replay.proofs.runs.timeline.run_timeline.Goals as goal

pub returns-in-Err-BadSettings : goal.returns-in-Err-BadSettings
returns-in-Err-BadSettings g c =
    let again = again_undone c.args.settings (TimelineFollows c.args.settings c.args.stretches) g.R.Source.shown g.W.Sink.shown _ c.args.reader.now c.args.writer.now (refl, refl) (search rules) in
    record { bad_stretches = search rules; runs = λ good. again }

pub returns-in-Err-OutOfMemory : goal.returns-in-Err-OutOfMemory
returns-in-Err-OutOfMemory g c =
    let again = again_undone c.args.settings (TimelineFollows c.args.settings c.args.stretches) g.R.Source.shown g.W.Sink.shown _ c.args.reader.now c.args.writer.now (refl, refl) (search rules) in
    record { bad_stretches = search rules; runs = λ good. again }

pub returns : goal.returns
returns g c =
    let ended = c.in_ok-ended.ended in
    let last = c.in_ok-ended.ensures.last refl in
    record {
      bad_stretches = λ bad. absurd (not_bad c.args.stretches (omega (arith, c.if-stretches-eq0)) (omega (arith, c.if-stretches-gt-MOST_STRETCHES)) bad);
      runs = λ good. record {
        run = Ok ended.status;
        reader_middle = c.replay_log.new.reader;
        writer_middle = c.replay_log.new.writer;
        runs = c.in_ok-ended.ensures.ran;
        goes_on = record { reports = last.reports; answer = c.tell_timeline.ensures.answer; follow = c.tell_timeline.ensures.told last.reports.lines last.stands };
      };
    }
