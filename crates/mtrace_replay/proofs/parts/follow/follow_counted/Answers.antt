use Rattle.std.proofs.Common.{refl, inr}
use Rattle.mtrace_log.specs.declared.call.Call.TheVariants.{Took, Flushed}
use Rattle.mtrace_log.proofs.TraceLemmas.{moved_then_append, failed_after}
use Rattle.mtrace_replay.specs.Fronted.{fronted_ledger_moments}
use Rattle.mtrace_replay.specs.Reporting.{TellsNothing}
use Rattle.mtrace_replay.proofs.OnLedger.LedgerRunLemmas.{no_notes, ledger_stops}
use Rattle.mtrace_replay.proofs.BySize.CountedRunLemmas.{counted_write, counted_all}
use Rattle.mtrace_replay.proofs.parts.follow.follow_counted.Goals as goal

-- the log has ended, and all was written
pub returns-in-Ok-finish-clause-ran : goal.returns-in-Ok-finish-clause-ran
returns-in-Ok-finish-clause-ran g c =
    let done = c.in-Ok.ensures.ends (c.args.fronted.now.front, tt) (refl, (c.requires.start.stands, c.requires.start.counted)) no_notes in
    record {
      ends = record {
        finished = (counted_all c.args.fronted.now.front c.read_log.new.replay _ _ _ _ _ _ done.0 c.in-Ok-finish.status c.in-Ok-finish.ensures.put.0 c.in-Ok-finish.ensures.status).reports;
        reader_ended = done.1;
        writer_flushed = moved_then_append Took Flushed _ _ _ done.2 c.in-Ok-finish.ensures.put.1;
      };
      whole = c.read_log.ensures.whole;
    }

-- and its blocks were counted
pub returns-in-Ok-finish-clause-last : goal.returns-in-Ok-finish-clause-last
returns-in-Ok-finish-clause-last g c =
    counted_all c.args.fronted.now.front c.read_log.new.replay _ _ _ _ _ _ (c.in-Ok.ensures.ends (c.args.fronted.now.front, tt) (refl, (c.requires.start.stands, c.requires.start.counted)) no_notes).0
    c.in-Ok-finish.status c.in-Ok-finish.ensures.put.0 c.in-Ok-finish.ensures.status

-- the writer failed at the end
pub returns-in-Err-finish-clause-ran : goal.returns-in-Err-finish-clause-ran
returns-in-Err-finish-clause-ran g c =
    let done = c.in-Ok.ensures.ends (c.args.fronted.now.front, tt) (refl, (c.requires.start.stands, c.requires.start.counted)) no_notes in
    record {
      ends = record {
        write_fault = counted_write c.args.fronted.now.front c.read_log.new.replay _ _ _ _ _ _ done.0 c.in-Err-finish.ensures.put.0;
        writer_failed = failed_after _ _ _ done.2 c.in-Err-finish.ensures.put.1;
        reader_not_failed = inr done.1;
      };
      whole = c.read_log.ensures.whole;
    }

-- the lines weren't all followed
pub returns-in-Err-clause-ran : goal.returns-in-Err-clause-ran
returns-in-Err-clause-ran g c = record {
  ends = ledger_stops (fronted_ledger_moments c.args.fronted.now.front) TellsNothing _ _ c.in-Err.fault _ _ _ _
      (c.in-Err.ensures.ends (c.args.fronted.now.front, tt) (refl, (c.requires.start.stands, c.requires.start.counted)) no_notes);
  whole = c.read_log.ensures.whole;
}
