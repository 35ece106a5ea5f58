-- A run that counts the blocks of a log, and how it ends.
use Rattle.std.proofs.Common.{◌≡◌, ℕ, Bool, ◌||◌, [], length, map, reverse, refl, sym}
use Rattle.std.specs.Prelude.{if◌then◌else◌}
use Rattle.mtrace_log.specs.Shown.{ReaderState, WriterState}
use Rattle.mtrace_log.specs.Output.{Wrote, Begins}
use Rattle.mtrace_replay.specs.declared.runs.fronted.Fronted.{Fronted}
use Rattle.mtrace_replay.specs.declared.runs.status.Status.{Status}
use Rattle.mtrace_replay.specs.declared.runs.status.Status.TheVariants.{Clean, Found}
use Rattle.mtrace_replay.specs.declared.parts.replay.CountedReplay.{CountedReplay}
use Rattle.mtrace_replay.specs.Moment.{half}
use Rattle.mtrace_replay.specs.History.{notes, pending}
use Rattle.mtrace_replay.specs.Fronted.{fronted_ledger_moments, fronted_rules}
use Rattle.mtrace_replay.specs.Following.{Notes, HasReadThese, has_some, HasFollowed}
use Rattle.mtrace_replay.specs.Reporting.{TellsNothing, StopsAtWrite}
use Rattle.mtrace_replay.specs.RunParts.{EndsCounted}
use Rattle.mtrace_replay.specs.LedgerReplay.{LedgerReplayed, unplaced}
use Rattle.mtrace_replay.specs.CountedReplay.{counted_rules}
use Rattle.mtrace_replay.proofs.OnLedger.LedgerReplayLemmas.{entries_unplaced}
use Rattle.mtrace_replay.proofs.OnLedger.LedgerRunLemmas.{ledger_end}
use Rattle.mtrace_replay.proofs.Running.FrontedLemmas.{half_fronted}
use Rattle.mtrace_replay.proofs.Running.RunLemmas.{begins_report, reports_all}

-- all lines were followed, each request larger by the front
module _ (front : ℕ) (fronted : Fronted CountedReplay) (has_diagnostics : Bool) (reader_old reader_new : ReaderState) (writer_old writer_middle writer_new : WriterState)
    (done : HasFollowed ((fronted_rules counted_rules).Stands (front, tt) fronted) (λ past. notes (fronted_ledger_moments front past)) (Notes (λ past. notes (fronted_ledger_moments front past)))
    has_diagnostics reader_old reader_new writer_old writer_middle) where
  abbrev its : LedgerReplayed
  its = fronted.replay.ledger

  last_is : half its.lines its.pending ≡ half (length done.lines) (pending (reverse done.lines))
  last_is = half_fronted front done.lines its.lines its.pending done.stands.1.0.lines_are done.stands.1.0.pending_is

  -- the writer failed at the end
  pub counted_write : Begins writer_middle writer_new (ledger_end its []) → StopsAtWrite HasReadThese (fronted_ledger_moments front) TellsNothing reader_old reader_new writer_old writer_new
  counted_write begins =
      begins_report ((fronted_rules counted_rules).Stands (front, tt) fronted) (fronted_ledger_moments front) TellsNothing has_diagnostics reader_old reader_new writer_old writer_middle writer_new done
      (half its.lines its.pending) last_is [] refl HasReadThese begins

  -- all was written
  pub counted_all : (status : Status) → Wrote writer_middle writer_new (ledger_end its [])
      → status ≡ (if has_diagnostics || (has_some (half its.lines its.pending) || has_some its.all) then Found else Clean)
      → EndsCounted front status fronted.replay reader_old reader_new writer_old writer_new
  counted_all status wrote is = record {
    reports = reports_all ((fronted_rules counted_rules).Stands (front, tt) fronted) (fronted_ledger_moments front) TellsNothing has_diagnostics reader_old reader_new writer_old writer_middle writer_new done
        (half its.lines its.pending) last_is [] refl (map unplaced its.all) done.stands.1.0.held its.all (sym (entries_unplaced its.all)) status wrote is;
    stands = done.stands.1.0;
    counted = done.stands.1.1;
  }
