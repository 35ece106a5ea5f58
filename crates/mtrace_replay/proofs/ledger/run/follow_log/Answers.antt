use Rattle.std.proofs.Common.{◌∙◌, [], subst, inr}
use Rattle.mtrace_log.specs.declared.call.Call.TheVariants.{Took, Flushed}
use Rattle.mtrace_log.proofs.TraceLemmas.{moved_then_append, failed_after}
use Rattle.mtrace_replay.specs.Prepared.{IsOf}
use Rattle.mtrace_replay.proofs.Running.RunLemmas.{flush_asked}
use Rattle.mtrace_replay.specs.LedgerReplay.{ledger_moments}
use Rattle.mtrace_replay.specs.RunLedger.{TellsLedger}
use Rattle.mtrace_replay.proofs.OnLedger.LedgerRunLemmas.{no_notes, ledger_stops, ledger_write, ledger_all, ledger_nothing}
use Rattle.mtrace_replay.proofs.ledger.run.follow_log.Goals as goal

-- the log has ended, and all was written
pub returns-in-Ok-finished-clause-ran : goal.returns-in-Ok-finished-clause-ran
returns-in-Ok-finished-clause-ran g c =
    let done = c.in-Ok.ensures.ends tt c.new-replay.ensures no_notes in
    record {
      ends = record {
        finished = ledger_all c.args.report c.read_log.new.replay _ _ _ _ _ _ done.0 c.in-Ok-prepare.prepared c.in-Ok-prepare.ensures.report c.in-Ok-prepare.ensures.named
            c.in-Ok-finished.status c.in-Ok-finished.ensures.put.0 c.in-Ok-finished.ensures.status;
        reader_ended = done.1;
        writer_flushed = moved_then_append Took Flushed _ _ _ done.2 c.in-Ok-finished.ensures.put.1;
      };
      whole = c.read_log.ensures.whole;
    }

-- and the replay stands for the lines, where there is no report
pub returns-in-Ok-finished-clause-last : goal.returns-in-Ok-finished-clause-last
returns-in-Ok-finished-clause-last g c = λ is.
    ledger_nothing c.read_log.new.replay _ _ _ _ _ _ (c.in-Ok.ensures.ends tt c.new-replay.ensures no_notes).0 c.in-Ok-prepare.prepared
    (subst (λ report. IsOf report c.in-Ok-prepare.prepared) is c.in-Ok-prepare.ensures.report) c.in-Ok-prepare.ensures.named c.in-Ok-finished.status c.in-Ok-finished.ensures.put.0 c.in-Ok-finished.ensures.status

-- the writer failed at the end
pub returns-in-Err-finished-clause-ran : goal.returns-in-Err-finished-clause-ran
returns-in-Err-finished-clause-ran g c =
    let done = c.in-Ok.ensures.ends tt c.new-replay.ensures no_notes in
    record {
      ends = record {
        write_fault = ledger_write c.args.report c.read_log.new.replay _ _ _ _ _ _ done.0 c.in-Ok-prepare.prepared c.in-Ok-prepare.ensures.report c.in-Ok-prepare.ensures.named c.in-Err-finished.ensures.put.0;
        writer_failed = failed_after _ _ _ done.2 c.in-Err-finished.ensures.put.1;
        reader_not_failed = inr done.1;
      };
      whole = c.read_log.ensures.whole;
    }

-- memory was refused for the report
pub returns-in_default-clause-ran : goal.returns-in_default-clause-ran
returns-in_default-clause-ran g c =
    let done = c.in-Ok.ensures.ends tt c.new-replay.ensures no_notes in
    record {
      ends = record {
        memory = record { lines = done.0.lines; unused = []; reason = inr done.0.read; text = done.0.text; told = done.0.told; wrote = c.flush.ensures.kept ∙ done.0.wrote };
        flush_asked = flush_asked c.flush.result _ _ _ done.2 c.flush.ensures.told;
        reader_not_failed = inr done.1;
      };
      whole = c.read_log.ensures.whole;
    }

-- the lines weren't all followed
pub returns-in-Err-clause-ran : goal.returns-in-Err-clause-ran
returns-in-Err-clause-ran g c = record {
  ends = ledger_stops ledger_moments (TellsLedger c.args.report) _ _ c.in-Err.fault _ _ _ _ (c.in-Err.ensures.ends tt c.new-replay.ensures no_notes);
  whole = c.read_log.ensures.whole;
}
