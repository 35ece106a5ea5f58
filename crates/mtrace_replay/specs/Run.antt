-- What a run read and wrote, by its answer.
use Rattle.std.specs.Prelude.{◌≡◌, ◌↔◌, ℕ, Bool, List, ◌++◌, reverse, count_by, Result, Ok, Err, IsTrue, IsErrOf}
use Rattle.mtrace_log.specs.Shown.{ReaderState, WriterState}
use Rattle.mtrace_replay.specs.declared.runs.report.Report.{Report}
use Rattle.mtrace_replay.specs.declared.runs.report.Report.TheVariants.{Nothing}
use Rattle.mtrace_replay.specs.declared.runs.run.FinishedRun.{FinishedRun}
use Rattle.mtrace_replay.specs.declared.heap.totals.Totals.{Totals}
use Rattle.mtrace_replay.specs.declared.heap.settings.Settings.{Settings}
use Rattle.mtrace_replay.specs.declared.runs.status.Status.{Status}
use Rattle.mtrace_replay.specs.declared.runs.status.RunFault.{RunFault}
use Rattle.mtrace_replay.specs.declared.runs.status.RunFault.TheVariants.{Read, Write, OutOfMemory, BadSettings, Image}
use Rattle.mtrace_replay.specs.Course.{Course, shown_before, shown_after}
use Rattle.mtrace_replay.specs.Settings.{are_bad}
use Rattle.mtrace_replay.specs.Started.{Bare, started}
use Rattle.mtrace_log.specs.HasRead.{HasReadAll}
use Rattle.mtrace_replay.specs.Totals.{AreTotals, is_refused}
use Rattle.mtrace_replay.specs.Moment.{ReadLine, Given, Moment}
use Rattle.mtrace_replay.specs.History.{moments, history, notes, diagnostics, AreHeld, entries_of, content_after}
use Rattle.mtrace_replay.specs.Replay.{Replayed, StandsFor}
use Rattle.mtrace_replay.specs.Following.{Notes, HasReadUpTo, RunsToEnd, RunsToRead, RunsToWrite}
use Rattle.mtrace_replay.specs.Reporting.{Reports, StopsAtWrite}
use Rattle.mtrace_replay.specs.Texts.{diagnostics_text, report_text}
use Rattle.mtrace_log.specs.Output.{Puts}

-- all diagnostics of the lines, and then the report
abbrev pub whole_text : Report → Settings → List ReadLine → List Given → Totals → List ℕ
whole_text report settings lines all totals =
    diagnostics_text (diagnostics settings lines)
    ++ report_text report (entries_of all) totals (content_after (started settings) (history settings lines))

-- the text of the report of these lines
pub record TellsReport (report : Report) (settings : Settings) (lines : List ReadLine) (text : List ℕ) : Type 0 where
  pub all : List Given
  pub held : AreHeld all (history settings lines)
  pub totals : Totals
  pub summed : AreTotals (started settings) (history settings lines) totals
  pub text_is : text ≡ report_text report (entries_of all) totals (content_after (started settings) (history settings lines))

-- all of the log was read, and its diagnostics and the report were written
abbrev pub ReportsOnHeap : Report → Settings → Status → (reader_old reader_new : ReaderState) (writer_old writer_new : WriterState) → Type 0
ReportsOnHeap report settings = Reports (moments (started settings)) (TellsReport report settings)

-- a run without a report, and what its heap holds in the end
pub record HoldsAtEnd (settings : Settings) (status : Status) (content : Bare) (reader_old reader_new : ReaderState) (writer_old writer_new : WriterState) : Type 0 where
  pub reports : ReportsOnHeap Nothing settings status reader_old reader_new writer_old writer_new
  pub content_is : content ≡ content_after (started settings) (history settings reports.lines)

-- a run without a report, and the replay in the end
pub record EndsAt (settings : Settings) (status : Status) (replay : Replayed) (reader_old reader_new : ReaderState) (writer_old writer_new : WriterState) : Type 0 where
  pub reports : ReportsOnHeap Nothing settings status reader_old reader_new writer_old writer_new
  pub stands : StandsFor replay settings (reverse reports.lines)
  pub records : replay.content.records ≡ settings.records

-- nothing was asked of the reader, nor of the writer
abbrev pub NothingDone : {R W : Type 0} → Course R ReaderState → Course W WriterState → Type 0
NothingDone reader writer = (reader.new ≡ reader.old) × (writer.new ≡ writer.old)

-- how a run on a heap ended, by what it answers, which is never `Image`. The moments are of lines of which the latest comes first
abbrev pub RunEndsBy : {R W : Type 0} → (moments : List ReadLine → List Moment) (Tells : List ReadLine → List ℕ → Type 0) → Result Status RunFault → Course R ReaderState → Course W WriterState → Type 0
RunEndsBy moments Tells (Ok status) reader writer = RunsToEnd (Reports moments Tells status (shown_before reader) (shown_after reader) (shown_before writer) (shown_after writer)) (shown_before reader) (shown_after reader) (shown_before writer) (shown_after writer)
RunEndsBy moments Tells (Err Read) reader writer = RunsToRead (Notes (λ past. notes (moments past))) (shown_before reader) (shown_after reader) (shown_before writer) (shown_after writer)
RunEndsBy moments Tells (Err Write) reader writer = RunsToWrite (StopsAtWrite HasReadUpTo moments Tells (shown_before reader) (shown_after reader) (shown_before writer) (shown_after writer)) (shown_before reader) (shown_after reader) (shown_before writer) (shown_after writer)
RunEndsBy moments Tells (Err OutOfMemory) reader writer = NothingDone reader writer
RunEndsBy moments Tells (Err BadSettings) reader writer = NothingDone reader writer
RunEndsBy moments Tells (Err Image) reader writer = ⊥

-- What a run on a heap leaves, by the moments of its lines and what is told of them. The answer is bad settings exactly where they are
-- bad, and the reader has the same bytes in whole.
pub record RunsBy {R W : Type 0} (moments : List ReadLine → List Moment) (Tells : List ReadLine → List ℕ → Type 0) (is_bad : Bool) (result : Result Status RunFault)
    (reader : Course R ReaderState) (writer : Course W WriterState) : Type 0 where
  pub ends : RunEndsBy moments Tells result reader writer
  pub bad_settings : IsErrOf result BadSettings ↔ IsTrue is_bad
  pub whole : (shown_after reader).whole ≡ (shown_before reader).whole

-- what a run leaves that writes a report of what a heap does by the settings
abbrev pub Runs : {R W : Type 0} → Report → Settings → Result Status RunFault → Course R ReaderState → Course W WriterState → Type 0
Runs report settings = RunsBy (moments (started settings)) (TellsReport report settings) (are_bad settings)

-- all of the log was read, and this many of its lines the heap refused
pub record CountsRefused (settings : Settings) (refused : ℕ) (reader_old reader_new : ReaderState) : Type 0 where
  pub lines : List ReadLine
  pub read : HasReadAll reader_old.left reader_new.left lines
  pub refused_are : refused ≡ count_by is_refused (history settings lines)

-- what a call leaves that puts this text with the report in it
pub record PutsReport {T E : Type 0} (result : Result T E) (report : Report) (text : List ℕ)
    (replay_old replay_new : Replayed) (writer_old writer_new : WriterState) : Type 0 where
  pub put : Puts result text writer_old writer_new
  pub kept : report ≡ Nothing → replay_new ≡ replay_old

-- the status of a run with its replay
abbrev pub status_in : Result FinishedRun RunFault → Result Status RunFault
status_in (Ok ended) = Ok ended.status
status_in (Err fault) = Err fault
