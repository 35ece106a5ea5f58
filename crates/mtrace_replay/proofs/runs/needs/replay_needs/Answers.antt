use Rattle.std.proofs.Common.{[], rules, refl, ◌∙◌, inr}
use Rattle.mtrace_log.specs.declared.call.Call.TheVariants.{Took, Flushed}
use Rattle.mtrace_log.proofs.TraceLemmas.{moved_then_append, failed_after}
use Rattle.mtrace_replay.specs.Settings.{are_bad}
use Rattle.mtrace_replay.specs.Fronted.{fronted_moments}
use Rattle.mtrace_replay.specs.Reporting.{TellsNothing}
use Rattle.mtrace_replay.proofs.Running.RunLemmas.{no_notes, run_stops}
use Rattle.mtrace_replay.proofs.Running.NeedsLemmas.{needs_write, needs_all, ends_with_needs}
use Rattle.mtrace_replay.proofs.runs.needs.replay_needs.Goals as goal

-- memory was never refused
pub finish-requires : goal.finish-requires
finish-requires g c =
    record { works = (c.in-Ok-read_log.ensures.ends (c.args.front, c.args.settings) (refl, (c.in-Ok.ensures.made, c.none-needs.ensures c.args.settings)) (no_notes c.args.settings)).0.stands.1.0.works }

-- the log has ended, and all was written
pub returns-in-Ok-finish-clause-ran : goal.returns-in-Ok-finish-clause-ran
returns-in-Ok-finish-clause-ran g c =
    let done = c.in-Ok-read_log.ensures.ends (c.args.front, c.args.settings) (refl, (c.in-Ok.ensures.made, c.none-needs.ensures c.args.settings)) (no_notes c.args.settings) in
    record {
      ends = record {
        finished = needs_all c.args.front c.args.settings c.read_log.new.replay _ _ _ _ _ _ done.0
            c.in-Ok-finish.status c.in-Ok-finish.ensures.finished.put.0 c.in-Ok-finish.ensures.finished.status;
        reader_ended = done.1;
        writer_flushed = moved_then_append Took Flushed _ _ _ done.2 c.in-Ok-finish.ensures.finished.put.1;
      };
      bad_settings = search rules;
      whole = search rules;
    }

pub returns-in-Ok-finish-clause-last : goal.returns-in-Ok-finish-clause-last
returns-in-Ok-finish-clause-last g c =
    ends_with_needs c.args.front c.args.settings c.read_log.new.replay _ _ _ _ _ _
    (c.in-Ok-read_log.ensures.ends (c.args.front, c.args.settings) (refl, (c.in-Ok.ensures.made, c.none-needs.ensures c.args.settings)) (no_notes c.args.settings)).0
    c.finish.new.replay c.in-Ok-finish.status c.in-Ok-finish.ensures.finished.put.0 c.in-Ok-finish.ensures.finished.status
    (c.in-Ok-finish.ensures.kept refl) (c.in-Ok-read_log.ensures.fixed ∙ c.in-Ok.ensures.records)

-- the writer failed at the end
pub returns-in-Err-finish-clause-ran : goal.returns-in-Err-finish-clause-ran
returns-in-Err-finish-clause-ran g c =
    let done = c.in-Ok-read_log.ensures.ends (c.args.front, c.args.settings) (refl, (c.in-Ok.ensures.made, c.none-needs.ensures c.args.settings)) (no_notes c.args.settings) in
    record {
      ends = record {
        write_fault = needs_write c.args.front c.args.settings c.read_log.new.replay _ _ _ _ _ _ done.0 c.in-Err-finish.ensures.finished.put.0;
        writer_failed = failed_after _ _ _ done.2 c.in-Err-finish.ensures.finished.put.1;
        reader_not_failed = inr done.1;
      };
      bad_settings = search rules;
      whole = search rules;
    }

-- the lines weren't all followed
pub returns-in-Err-clause-ran : goal.returns-in-Err-clause-ran
returns-in-Err-clause-ran g c =
    run_stops (fronted_moments c.args.front c.args.settings) TellsNothing _ [] (λ lines stands. refl) (are_bad c.args.settings) c.in-Err.fault _ _ (search rules)
    (c.in-Err.ensures.ends (c.args.front, c.args.settings) (refl, (c.in-Ok.ensures.made, c.none-needs.ensures c.args.settings)) (no_notes c.args.settings)) c.read_log.ensures.whole
