use Rattle.std.proofs.Common.{rules, ap, subst, ◌∙◌, inr}
use Rattle.mtrace_log.specs.Output.{Wrote}
use Rattle.mtrace_replay.specs.declared.runs.report.Report.{Report}
use Rattle.mtrace_replay.specs.declared.heap.totals.Totals.{Totals}
use Rattle.mtrace_log.specs.declared.call.Call.TheVariants.{Took, Flushed}
use Rattle.mtrace_log.proofs.TraceLemmas.{moved_then_append, failed_after}
use Rattle.mtrace_replay.specs.Settings.{are_bad}
use Rattle.mtrace_replay.specs.Started.{started}
use Rattle.mtrace_replay.specs.History.{moments}
use Rattle.mtrace_replay.specs.Run.{TellsReport}
use Rattle.mtrace_replay.proofs.Running.RunLemmas.{end_text, no_notes, report_tells, run_stops, report_all, ends_at, report_write}
use Rattle.mtrace_replay.proofs.runs.run.replay_log.Goals as goal

-- memory was never refused
pub finish-requires : goal.finish-requires
finish-requires g c = record { works = (c.in-Ok-read_log.ensures.ends c.args.settings c.in-Ok.ensures.made (no_notes c.args.settings)).0.stands.works }

-- the log has ended, and all was written
pub returns-in-Ok-finish-clause-ran : goal.returns-in-Ok-finish-clause-ran
returns-in-Ok-finish-clause-ran g c =
    let done = c.in-Ok-read_log.ensures.ends c.args.settings c.in-Ok.ensures.made (no_notes c.args.settings) in
    record {
      ends = record {
        finished = report_all c.args.report c.args.settings c.read_log.new.replay _ _ _ _ _ _ done.0 c.in-Ok-finish.status c.in-Ok-finish.ensures.finished.put.0 c.in-Ok-finish.ensures.finished.status;
        reader_ended = done.1;
        writer_flushed = moved_then_append Took Flushed _ _ _ done.2 c.in-Ok-finish.ensures.finished.put.1;
      };
      bad_settings = search rules;
      whole = search rules;
    }

pub returns-in-Ok-finish-clause-counted : goal.returns-in-Ok-finish-clause-counted
returns-in-Ok-finish-clause-counted g c =
    let done = (c.in-Ok-read_log.ensures.ends c.args.settings c.in-Ok.ensures.made (no_notes c.args.settings)).0 in
    record {
      lines = done.lines;
      read = done.read;
      refused_are = ap (λ (totals : Totals). totals.refused) c.totals-refused.ensures.totals ∙ done.stands.totals.refused;
    }

pub returns-in-Ok-finish-clause-last : goal.returns-in-Ok-finish-clause-last
returns-in-Ok-finish-clause-last g c = λ only.
    let P : Report → Type 0 = λ report. Wrote (g.W.Sink.shown c.read_log.new.writer) (g.W.Sink.shown c.finish.new.writer) (end_text report c.read_log.new.replay) in
    ends_at c.args.settings c.read_log.new.replay c.finish.new.replay _ c.in-Ok-finish.status _ _ _ _ _
    (c.in-Ok-read_log.ensures.ends c.args.settings c.in-Ok.ensures.made (no_notes c.args.settings)).0
    (subst P only c.in-Ok-finish.ensures.finished.put.0) c.in-Ok-finish.ensures.finished.status (c.in-Ok-finish.ensures.kept only) (c.in-Ok-read_log.ensures.fixed ∙ c.in-Ok.ensures.records)

-- the writer failed at the end
pub returns-in-Err-finish-clause-ran : goal.returns-in-Err-finish-clause-ran
returns-in-Err-finish-clause-ran g c =
    let done = c.in-Ok-read_log.ensures.ends c.args.settings c.in-Ok.ensures.made (no_notes c.args.settings) in
    record {
      ends = record {
        write_fault = report_write c.args.report c.args.settings c.read_log.new.replay _ _ _ _ _ _ done.0 c.in-Err-finish.ensures.finished.put.0;
        writer_failed = failed_after _ _ _ done.2 c.in-Err-finish.ensures.finished.put.1;
        reader_not_failed = inr done.1;
      };
      bad_settings = search rules;
      whole = search rules;
    }

-- the lines weren't all followed
pub returns-in-Err-clause-ran : goal.returns-in-Err-clause-ran
returns-in-Err-clause-ran g c =
    run_stops (moments (started c.args.settings)) (TellsReport c.args.report c.args.settings) _ _ (report_tells c.args.report c.args.settings c.read_log.new.replay) (are_bad c.args.settings) c.in-Err.fault _ _ (search rules)
    (c.in-Err.ensures.ends c.args.settings c.in-Ok.ensures.made (no_notes c.args.settings)) c.read_log.ensures.whole
