-- What a run leaves that tells what is held over the lines of a log, without a heap.
use Rattle.std.specs.Prelude.{◌≡◌, ◌≢◌, ℕ, true, false, List, length, take, Result, Err, IsErrOf}
use Rattle.std.specs.List.{All}
use Rattle.mtrace_log.specs.Shown.{Bytes, ReaderState, WriterState}
use Rattle.mtrace_log.specs.Trace.{HasNotFailed}
use Rattle.mtrace_replay.specs.declared.ledger.point.LedgerPoint.{LedgerPoint}
use Rattle.mtrace_replay.specs.declared.runs.status.Status.{Status}
use Rattle.mtrace_replay.specs.declared.runs.status.RunFault.{RunFault}
use Rattle.mtrace_replay.specs.declared.runs.status.RunFault.TheVariants.{BadSettings, OutOfMemory}
use Rattle.mtrace_replay.specs.Course.{Course, shown_before, shown_after}
use Rattle.mtrace_replay.specs.Moment.{ReadLine}
use Rattle.mtrace_replay.specs.Totals.{IsPeak}
use Rattle.mtrace_replay.specs.Texts.{ledger_timeline_text}
use Rattle.mtrace_replay.specs.Timeline.{is_bad_stretches, AreTold}
use Rattle.mtrace_replay.specs.Run.{NothingDone}
use Rattle.mtrace_replay.specs.Again.{HasReadFirst, begun_again, FailsAgain, Follows}
use Rattle.mtrace_replay.specs.LedgerReplay.{ledger_history}
use Rattle.mtrace_replay.specs.RunLedger.{RunsLedgerFirst}
use Rattle.mtrace_replay.specs.LedgerTimeline.{IsPointOfLines, ledger_lines_of, IsUntouchedOrBegan}

-- The text of what is held over the lines of a log. As many lines as it has are read again, from the first byte on. Each point
-- is of the first of them.
pub record TellsLedgerTimeline (stretches : ℕ) (lines : List ReadLine) (whole left : Bytes) (text : List ℕ) : Type 0 where
  pub peak_bytes : ℕ
  pub peak_line : ℕ
  pub peak : IsPeak (ledger_history lines) peak_bytes peak_line
  pub again : List ReadLine
  pub read : HasReadFirst (length lines) whole left again
  pub points : List LedgerPoint
  pub told : AreTold (length lines) peak_line stretches (ledger_lines_of points)
  pub exact : All (λ point. IsPointOfLines (take point.line again) point) points
  pub text_is : text ≡ ledger_timeline_text points

-- What follows the first reading. The log was read again, and what is held over its lines was written. Or memory was refused: then
-- nothing more was written, and the reader had not failed.
pub record LedgerTimelineFollows {R W : Type 0} (stretches : ℕ) (lines : List ReadLine) (result : Result Status RunFault)
    (reader : Course R ReaderState) (writer : Course W WriterState) : Type 0 where
  pub follows : result ≢ Err OutOfMemory → Follows (TellsLedgerTimeline stretches lines (shown_before reader).whole) (λ old new. HasNotFailed (begun_again old).calls new.calls)
      (FailsAgain (length lines)) result reader writer
  pub nothing_put : IsErrOf result OutOfMemory → writer.new ≡ writer.old
  pub not_failed : IsErrOf result OutOfMemory → IsUntouchedOrBegan (shown_before reader) (shown_after reader)

-- What a run leaves that tells what is held over the lines of a log, without a heap. Where the number of stretches is bad, nothing is done.
pub record RunsLedgerTimeline {R W : Type 0} (stretches : ℕ) (result : Result Status RunFault) (reader : Course R ReaderState) (writer : Course W WriterState) : Type 0 where
  pub bad_stretches : is_bad_stretches stretches ≡ true → (result ≡ Err BadSettings) × NothingDone reader writer
  pub runs : is_bad_stretches stretches ≡ false → RunsLedgerFirst (LedgerTimelineFollows stretches) result reader writer
