use Rattle.std.proofs.Common.{◌∙◌, [], inr}
use Rattle.mtrace_log.specs.declared.call.Call.TheVariants.{Took, Flushed}
use Rattle.mtrace_log.proofs.TraceLemmas.{moved_then_append, failed_after}
use Rattle.mtrace_replay.specs.Snapshots.{SnapshotsOf}
use Rattle.mtrace_replay.proofs.Running.RunLemmas.{flush_asked}
use Rattle.mtrace_replay.proofs.OnLedger.LedgerRunLemmas.{no_notes}
use Rattle.mtrace_replay.proofs.OnLedger.SnapshotLemmas.{snapshots_stop, snapshots_write, snapshots_all}
use Rattle.mtrace_replay.proofs.ledger.snapshots.run_ledger_snapshots.Goals as goal

-- the lines weren't all followed
pub returns-in-Err : goal.returns-in-Err
returns-in-Err g c =
    let start : SnapshotsOf = record { every = c.args.every; report = c.args.report } in
    snapshots_stop c.args.every c.args.report _ c.in-Err.fault _ _ _ _ c.if-every-eq0.false (c.in-Err.ensures.ends start c.new-snapshots.ensures.stands no_notes) c.read_log.ensures.whole

-- memory was refused for the report
pub returns-in_default : goal.returns-in_default
returns-in_default g c =
    let start : SnapshotsOf = record { every = c.args.every; report = c.args.report } in
    let done = c.in-Ok.ensures.ends start c.new-snapshots.ensures.stands no_notes in
    record {
      ends = record {
        memory = record { lines = done.0.lines; unused = []; reason = inr done.0.read; text = done.0.text; told = done.0.told; wrote = c.flush.ensures.kept ∙ done.0.wrote };
        flush_asked = flush_asked c.flush.result _ _ _ done.2 c.flush.ensures.told;
        reader_not_failed = inr done.1;
      };
      bad_settings = ((λ is. absurd cc), (λ zero. absurd (c.if-every-eq0.false zero)));
      whole = c.read_log.ensures.whole;
    }

-- the log has ended, and all was written
pub returns-in-Ok-finish : goal.returns-in-Ok-finish
returns-in-Ok-finish g c =
    let start : SnapshotsOf = record { every = c.args.every; report = c.args.report } in
    let done = c.in-Ok.ensures.ends start c.new-snapshots.ensures.stands no_notes in
    record {
      ends = record {
        finished = snapshots_all start c.read_log.new.replay _ _ _ _ _ _ done.0 c.in-Ok-prepare.prepared c.in-Ok-prepare.ensures.report c.in-Ok-prepare.ensures.named
            c.in-Ok-finish.status c.in-Ok-finish.ensures.put.0 c.in-Ok-finish.ensures.status;
        reader_ended = done.1;
        writer_flushed = moved_then_append Took Flushed _ _ _ done.2 c.in-Ok-finish.ensures.put.1;
      };
      bad_settings = ((λ is. absurd cc), (λ zero. absurd (c.if-every-eq0.false zero)));
      whole = c.read_log.ensures.whole;
    }

-- the writer failed at the end
pub returns : goal.returns
returns g c =
    let start : SnapshotsOf = record { every = c.args.every; report = c.args.report } in
    let done = c.in-Ok.ensures.ends start c.new-snapshots.ensures.stands no_notes in
    record {
      ends = record {
        write_fault = snapshots_write start c.read_log.new.replay _ _ _ _ _ _ done.0 c.in-Ok-prepare.prepared c.in-Ok-prepare.ensures.report c.in-Ok-prepare.ensures.named c.in-Err-finish.ensures.put.0;
        writer_failed = failed_after _ _ _ done.2 c.in-Err-finish.ensures.put.1;
        reader_not_failed = inr done.1;
      };
      bad_settings = ((λ is. absurd cc), (λ zero. absurd (c.if-every-eq0.false zero)));
      whole = c.read_log.ensures.whole;
    }
