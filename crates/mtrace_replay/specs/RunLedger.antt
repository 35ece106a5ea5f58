-- What a run without a heap read and wrote, by its answer.
use Rattle.std.specs.Prelude.{◌≡◌, ℕ, List, [], ◌++◌, length, reverse, count_by, Result, Ok, Err}
use Rattle.mtrace_log.specs.Shown.{ReaderState, WriterState}
use Rattle.mtrace_replay.specs.declared.runs.status.Status.{Status}
use Rattle.mtrace_replay.specs.declared.runs.status.RunFault.{RunFault}
use Rattle.mtrace_replay.specs.declared.runs.status.RunFault.TheVariants.{Read, Write, OutOfMemory}
use Rattle.mtrace_replay.specs.declared.ledger.replay.LedgerTotals.{LedgerTotals}
use Rattle.mtrace_replay.specs.declared.ledger.report.LedgerReport.{LedgerReport}
use Rattle.mtrace_replay.specs.declared.ledger.report.LedgerReport.TheVariants.{Held, Sums, Sites, Callers, Nothing}
use Rattle.mtrace_replay.specs.declared.ledger.run.EndedLedger.{EndedLedger}
use Rattle.mtrace_replay.specs.Moment.{ReadLine, Given, Moment}
use Rattle.mtrace_replay.specs.History.{notes, AreHeld, entries_of}
use Rattle.mtrace_replay.specs.Totals.{is_served, first_moments, Measures, IsPeak, asked_bytes_in, blocks_in}
use Rattle.mtrace_replay.specs.RunSites.{HeldSites, sections_of}
use Rattle.mtrace_replay.specs.Texts.{diagnostics_text, leaks_report, ledger_peak_report, callers_text}
use Rattle.mtrace_replay.specs.declared.held.count.Count.{Count}
use Rattle.mtrace_replay.specs.Calls.{Caller}
use Rattle.mtrace_replay.specs.Callers.{calls_in, temporary_in, AreCallers, all_of}
use Rattle.mtrace_replay.specs.LedgerReplay.{ledger_moments, ledger_history, ledger_diagnostics, LedgerReplayed, LedgerStandsFor}
use Rattle.mtrace_replay.specs.Following.{Notes, HasReadThese, RunsToEnd, RunsToRead, RunsToWrite, RunsToMemory}
use Rattle.mtrace_replay.specs.Reporting.{Reports, StopsAtWrite}
use Rattle.mtrace_replay.specs.Again.{RunsFirst}
use Rattle.mtrace_replay.specs.Course.{Course, shown_before, shown_after}

-- the sums over lines without a heap
pub record AreLedgerTotals (past : List Moment) (totals : LedgerTotals) : Type 0 where
  pub lines : totals.lines ≡ length past
  pub served : totals.served ≡ count_by is_served past
  pub live_bytes : Measures asked_bytes_in past totals.live_bytes
  pub live_blocks : Measures blocks_in past totals.live_blocks
  pub peak : IsPeak past totals.peak_bytes totals.peak_line

-- the text of what is held at the end
pub record TellsHeld (lines : List ReadLine) (text : List ℕ) : Type 0 where
  pub all : List Given
  pub held : AreHeld all (ledger_history lines)
  pub text_is : text ≡ leaks_report (entries_of all)

-- the text of the sums
pub record TellsSums (lines : List ReadLine) (text : List ℕ) : Type 0 where
  pub totals : LedgerTotals
  pub summed : AreLedgerTotals (ledger_history lines) totals
  pub text_is : text ≡ ledger_peak_report totals

-- the text of who holds the memory: at the peak and at the end
pub record TellsLedgerSites (lines : List ReadLine) (text : List ℕ) : Type 0 where
  pub totals : LedgerTotals
  pub summed : AreLedgerTotals (ledger_history lines) totals
  pub at_peak : HeldSites (first_moments totals.peak_line (ledger_history lines))
  pub at_end : HeldSites (ledger_history lines)
  pub text_is : text ≡ sections_of totals.peak_line at_peak at_end

-- who asked over these lines: all calls together, and the callers
pub record AreCallsOf (lines : List ReadLine) (total : Count) (callers : List Caller) : Type 0 where
  pub total_is : total ≡ all_of (calls_in (ledger_history lines)) (temporary_in (reverse lines) (ledger_history lines))
  pub callers_are : AreCallers (calls_in (ledger_history lines)) (temporary_in (reverse lines) (ledger_history lines)) callers

-- the text of who holds the memory, and then of who asked over the log
pub record TellsLedgerCallers (lines : List ReadLine) (text : List ℕ) : Type 0 where
  pub held : List ℕ
  pub tells : TellsLedgerSites lines held
  pub total : Count
  pub callers : List Caller
  pub calls_are : AreCallsOf lines total callers
  pub text_is : text ≡ held ++ callers_text total callers

-- the text of a report of these lines
abbrev pub TellsLedger : LedgerReport → (lines : List ReadLine) (text : List ℕ) → Type 0
TellsLedger Held lines text = TellsHeld lines text
TellsLedger Sums lines text = TellsSums lines text
TellsLedger Sites lines text = TellsLedgerSites lines text
TellsLedger Callers lines text = TellsLedgerCallers lines text
TellsLedger Nothing lines text = text ≡ []

-- all diagnostics of the lines, and then a text
abbrev pub whole_ledger : List ReadLine → List ℕ → List ℕ
whole_ledger lines text = diagnostics_text (ledger_diagnostics lines) ++ text

-- all of the log was read, and its diagnostics and the report were written
abbrev pub ReportsLedger : LedgerReport → Status → (reader_old reader_new : ReaderState) (writer_old writer_new : WriterState) → Type 0
ReportsLedger report = Reports ledger_moments (TellsLedger report)

-- how a run ended, by what it answers, which is never `BadSettings` or `Image`. The moments are of lines of which the latest comes first
abbrev pub LedgerEndsBy : (moments : List ReadLine → List Moment) (Tells : List ReadLine → List ℕ → Type 0) → Result Status RunFault → (reader_old reader_new : ReaderState) (writer_old writer_new : WriterState) → Type 0
LedgerEndsBy moments Tells (Ok status) reader_old reader_new writer_old writer_new = RunsToEnd (Reports moments Tells status reader_old reader_new writer_old writer_new) reader_old reader_new writer_old writer_new
LedgerEndsBy moments Tells (Err Read) reader_old reader_new writer_old writer_new = RunsToRead (Notes (λ past. notes (moments past))) reader_old reader_new writer_old writer_new
LedgerEndsBy moments Tells (Err Write) reader_old reader_new writer_old writer_new = RunsToWrite (StopsAtWrite HasReadThese moments Tells reader_old reader_new writer_old writer_new) reader_old reader_new writer_old writer_new
LedgerEndsBy moments Tells (Err OutOfMemory) reader_old reader_new writer_old writer_new = RunsToMemory (Notes (λ past. notes (moments past))) reader_old reader_new writer_old writer_new
LedgerEndsBy moments Tells (Err _) reader_old reader_new writer_old writer_new = ⊥

-- What a run without a heap leaves, by the moments of its lines and what is told of them. The reader has the same bytes in whole.
pub record RunsLedgerBy (moments : List ReadLine → List Moment) (Tells : List ReadLine → List ℕ → Type 0) (result : Result Status RunFault) (reader_old reader_new : ReaderState) (writer_old writer_new : WriterState) : Type 0 where
  pub ends : LedgerEndsBy moments Tells result reader_old reader_new writer_old writer_new
  pub whole : reader_new.whole ≡ reader_old.whole

-- what a run without a heap leaves that writes a report
abbrev pub RunsLedger : LedgerReport → Result Status RunFault → (reader_old reader_new : ReaderState) (writer_old writer_new : WriterState) → Type 0
RunsLedger report = RunsLedgerBy ledger_moments (TellsLedger report)

-- what a run leaves that does more behind a run without a heap and without a report
abbrev pub RunsLedgerFirst : {R W : Type 0} → (After : List ReadLine → Result Status RunFault → Course R ReaderState → Course W WriterState → Type 0)
    → Result Status RunFault → Course R ReaderState → Course W WriterState → Type 0
RunsLedgerFirst After =
    RunsFirst (λ run reader writer. RunsLedger Nothing run (shown_before reader) (shown_after reader) (shown_before writer) (shown_after writer)) ledger_moments (TellsLedger Nothing) After

-- the answer of a run, without its replay
abbrev pub ledger_status : Result EndedLedger RunFault → Result Status RunFault
ledger_status (Ok ended) = Ok ended.status
ledger_status (Err fault) = Err fault

-- a run without a report, and the replay in the end
pub record EndsLedger (status : Status) (replay : LedgerReplayed) (reader_old reader_new : ReaderState) (writer_old writer_new : WriterState) : Type 0 where
  pub reports : ReportsLedger Nothing status reader_old reader_new writer_old writer_new
  pub stands : LedgerStandsFor replay (reverse reports.lines)
