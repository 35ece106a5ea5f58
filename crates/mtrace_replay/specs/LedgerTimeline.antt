-- What is held over the lines of a log, without a heap: its points, and what a call leaves that reads a log again for them.
use Rattle.std.specs.Prelude.{◌≡◌, ◌⊎◌, ℕ, ◌≤◌, List, map, Result, IfErr, IfOk, OnOk, IsErrOf}
use Rattle.std.specs.List.{All}
use Rattle.mtrace_log.specs.Shown.{Bytes, ReaderState}
use Rattle.mtrace_log.specs.Trace.{HasNotFailed}
use Rattle.mtrace_log.specs.Progress.{greatest_number}
use Rattle.mtrace_replay.specs.declared.ledger.point.LedgerPoint.{LedgerPoint}
use Rattle.mtrace_replay.specs.declared.runs.status.RunFault.{RunFault}
use Rattle.mtrace_replay.specs.declared.runs.status.RunFault.TheVariants.{Read, OutOfMemory}
use Rattle.mtrace_replay.specs.Moment.{ReadLine, Moment}
use Rattle.mtrace_replay.specs.Totals.{Measures, asked_bytes_in, blocks_in}
use Rattle.mtrace_replay.specs.LedgerReplay.{ledger_history}
use Rattle.mtrace_replay.specs.Again.{begun_again, FailsAgain}
use Rattle.mtrace_replay.specs.RunTimeline.{HasPointsOf}

-- what is held after the moments
pub record IsLedgerPoint (past : List Moment) (point : LedgerPoint) : Type 0 where
  pub bytes : Measures asked_bytes_in past point.bytes
  pub blocks : Measures blocks_in past point.blocks

-- the point is of these lines
abbrev pub IsPointOfLines : List ReadLine → LedgerPoint → Type 0
IsPointOfLines lines point = IsLedgerPoint (ledger_history lines) point

-- the numbers of the points' lines
abbrev pub ledger_lines_of : List LedgerPoint → List ℕ
ledger_lines_of points = map (λ point. point.line) points

-- Lines were read again, up to the greatest of these numbers. There is a point for each number, of the first of these lines.
abbrev pub HasLedgerPoints : (numbers : List ℕ) (points : List LedgerPoint) (whole left : Bytes) → Type 0
HasLedgerPoints numbers points whole left = HasPointsOf (λ point. point.line) IsPointOfLines numbers points whole left

-- the reader is as it was, or began again and has not failed
abbrev pub IsUntouchedOrBegan : (reader_old reader_new : ReaderState) → Type 0
IsUntouchedOrBegan reader_old reader_new = (reader_new ≡ reader_old) ⊎ HasNotFailed (begun_again reader_old).calls reader_new.calls

-- What a call leaves that reads the log again without a heap, and answers a point for each of these numbers. Or memory was refused.
-- Or the reader failed, or has fewer lines than one of them.
pub record ReadsLedgerPoints {P : Type 0} (items : P → List LedgerPoint) (numbers : List ℕ) (result : Result P RunFault) (reader_old reader_new : ReaderState) : Type 0 where
  pub done : IfOk result (λ points. HasLedgerPoints numbers (items points) reader_old.whole reader_new.left)
  pub not_failed : OnOk result (HasNotFailed (begun_again reader_old).calls reader_new.calls)
  pub faults : IfErr result (λ fault. (fault ≡ Read) ⊎ (fault ≡ OutOfMemory))
  pub fails : IsErrOf result Read → (many : ℕ) → All (λ number. number ≤ many) numbers → many ≤ greatest_number → FailsAgain many reader_old reader_new
  pub memory : IsErrOf result OutOfMemory → IsUntouchedOrBegan reader_old reader_new
