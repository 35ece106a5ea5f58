-- A report without a heap of which snapshots are put while the log is read: each is the report of the lines so far.
use Rattle.std.specs.Prelude.{◌≡◌, ◌⊎◌, ◌↔◌, ◌<◌, ℕ, List, [], ◌∷◌, ◌++◌, length, reverse, codes, decimal, Option, Some, None, Result, Ok, Err, IsErrOf}
use Rattle.mtrace_log.specs.Shown.{ReaderState, WriterState}
use Rattle.mtrace_log.specs.HasRead.{HasReadAll}
use Rattle.mtrace_log.specs.Output.{Wrote, Begins}
use Rattle.mtrace_replay.specs.declared.held.diagnostic.Diagnostic.{Diagnostic}
use Rattle.mtrace_replay.specs.declared.runs.status.Status.{Status}
use Rattle.mtrace_replay.specs.declared.runs.status.RunFault.{RunFault}
use Rattle.mtrace_replay.specs.declared.runs.status.RunFault.TheVariants.{Read, Write, OutOfMemory, BadSettings}
use Rattle.mtrace_replay.specs.declared.ledger.clock.Clock.{Clock}
use Rattle.mtrace_replay.specs.declared.ledger.report.LedgerReport.{LedgerReport}
use Rattle.mtrace_replay.specs.declared.ledger.snapshots.Snapshots.{Snapshots}
use Rattle.mtrace_replay.specs.Moment.{ReadLine, Given, half}
use Rattle.mtrace_replay.specs.History.{AreHeld, entries_of, pending}
use Rattle.mtrace_replay.specs.Texts.{diagnostics_text, clean_or_found}
use Rattle.mtrace_replay.specs.Marks.{snapshot_time, spans_over}
use Rattle.mtrace_replay.specs.LineReplay.{LineRules}
use Rattle.mtrace_replay.specs.Following.{with_unused, HasReadThese, RunsToEnd, RunsToRead, RunsToWrite, RunsToMemory}
use Rattle.mtrace_replay.specs.Reporting.{all_diagnostics}
use Rattle.mtrace_replay.specs.LedgerReplay.{LedgerStandsFor, ledger_moments, ledger_noted}
use Rattle.mtrace_replay.specs.RunLedger.{TellsLedger}

-- the line above a snapshot: the number of the last line that it has, and the time
abbrev pub snapshot_line : (lines time : ℕ) → List ℕ
snapshot_line lines time = codes "At line " ++ decimal lines ++ codes ", " ++ decimal time ++ codes " ms:\n"

-- a snapshot of lines, of which the latest comes first: its line, and the report of these lines
pub record IsSnapshot (report : LedgerReport) (past : List ReadLine) (time : ℕ) (text : List ℕ) : Type 0 where
  pub its : List ℕ
  pub tells : TellsLedger report (reverse past) its
  pub text_is : text ≡ snapshot_line (length past) time ++ its

-- what is put behind lines, where there is a time for it
abbrev pub IsBehind : (report : LedgerReport) (past : List ReadLine) → Option ℕ → List ℕ → Type 0
IsBehind report past None text = text ≡ []
IsBehind report past (Some time) text = IsSnapshot report past time text

-- the text of one line more: what is wrong with it, and then a snapshot where it is time for one
pub record TellsOneMore (every : ℕ) (report : LedgerReport) (Before : List ℕ → Type 0) (line : ReadLine) (past : List ReadLine) (text : List ℕ) : Type 0 where
  pub before : List ℕ
  pub told : Before before
  pub its : List Diagnostic
  pub its_are : ledger_noted (line ∷ past) ≡ ledger_noted past ++ its
  pub behind : List ℕ
  pub snapshot : IsBehind report (line ∷ past) (snapshot_time every (line ∷ past)) behind
  pub text_is : text ≡ before ++ (diagnostics_text its ++ behind)

-- the text of lines, of which the latest comes first
abbrev pub TellsSnapshots : (every : ℕ) → LedgerReport → List ReadLine → List ℕ → Type 0
TellsSnapshots every report [] text = text ≡ []
TellsSnapshots every report (line ∷ past) text = TellsOneMore every report (TellsSnapshots every report past) line past text

-- all of the log was read, its lines were told with the snapshots, then the diagnostic of the last line and the report were written
pub record ReportsSnapshots (every : ℕ) (report : LedgerReport) (status : Status) (reader_old reader_new : ReaderState) (writer_old writer_new : WriterState) : Type 0 where
  pub lines : List ReadLine
  pub read : HasReadAll reader_old.left reader_new.left lines
  pub along : List ℕ
  pub told : TellsSnapshots every report (reverse lines) along
  pub text : List ℕ
  pub tells : TellsLedger report lines text
  pub wrote : Wrote writer_old writer_new (along ++ (diagnostics_text (half (length lines) (pending (reverse lines))) ++ text))
  pub all : List Given
  pub held : AreHeld all (ledger_moments (reverse lines))
  pub status_is : status ≡ clean_or_found (all_diagnostics ledger_moments lines) (entries_of all)

-- all of the log was read, and a beginning of that was written
pub record BeginsSnapshots (every : ℕ) (report : LedgerReport) (reader_old reader_new : ReaderState) (writer_old writer_new : WriterState) (lines : List ReadLine) (along : List ℕ) : Type 0 where
  pub read : HasReadAll reader_old.left reader_new.left lines
  pub text : List ℕ
  pub tells : TellsLedger report lines text
  pub begun : Begins writer_old writer_new (along ++ (diagnostics_text (half (length lines) (pending (reverse lines))) ++ text))

-- The writer failed, after a beginning of what is told of the lines read, or of all that is written. Unused are the bytes that were
-- asked of the reader and belong to no line that was read.
pub record StopsInSnapshots (every : ℕ) (report : LedgerReport) (reader_old reader_new : ReaderState) (writer_old writer_new : WriterState) : Type 0 where
  pub lines : List ReadLine
  pub unused : List ℕ
  pub along : List ℕ
  pub told : TellsSnapshots every report (reverse lines) along
  pub begun : (HasReadThese reader_old (with_unused unused reader_new) lines × Begins writer_old writer_new along)
      ⊎ BeginsSnapshots every report reader_old (with_unused unused reader_new) writer_old writer_new lines along

-- how a run ended, by what it answers, which is never `Image`
abbrev pub SnapshotsEnd : (every : ℕ) → LedgerReport → Result Status RunFault → (reader_old reader_new : ReaderState) (writer_old writer_new : WriterState) → Type 0
SnapshotsEnd every report (Ok status) reader_old reader_new writer_old writer_new = RunsToEnd (ReportsSnapshots every report status reader_old reader_new writer_old writer_new) reader_old reader_new writer_old writer_new
SnapshotsEnd every report (Err Read) reader_old reader_new writer_old writer_new = RunsToRead (TellsSnapshots every report) reader_old reader_new writer_old writer_new
SnapshotsEnd every report (Err Write) reader_old reader_new writer_old writer_new = RunsToWrite (StopsInSnapshots every report reader_old reader_new writer_old writer_new) reader_old reader_new writer_old writer_new
SnapshotsEnd every report (Err OutOfMemory) reader_old reader_new writer_old writer_new = RunsToMemory (TellsSnapshots every report) reader_old reader_new writer_old writer_new
SnapshotsEnd every report (Err BadSettings) reader_old reader_new writer_old writer_new = (reader_new ≡ reader_old) × (writer_new ≡ writer_old)
SnapshotsEnd every report (Err _) reader_old reader_new writer_old writer_new = ⊥

-- What a run with snapshots leaves. The reader has the same bytes in whole.
pub record RunsSnapshots (every : ℕ) (report : LedgerReport) (result : Result Status RunFault) (reader_old reader_new : ReaderState) (writer_old writer_new : WriterState) : Type 0 where
  pub ends : SnapshotsEnd every report result reader_old reader_new writer_old writer_new
  pub bad_settings : IsErrOf result BadSettings ↔ (every ≡ 0)
  pub whole : reader_new.whole ≡ reader_old.whole

-- ---- what makes it

-- the clock stands for lines, the latest first
pub record IsClock (clock : Clock) (past : List ReadLine) : Type 0 where
  pub over : clock.over ≡ spans_over clock.every past
  pub due : clock.due ≡ snapshot_time clock.every past

-- a line was seen
pub record SeesLine (line : ReadLine) (old new : Clock) : Type 0 where
  pub every : new.every ≡ old.every
  pub stands : (past : List ReadLine) → IsClock old past → IsClock new (line ∷ past)

-- what snapshots begin on: how far apart they are, and of which report they are
pub record SnapshotsOf : Type 0 where
  pub every : ℕ
  pub report : LedgerReport

pub record StandsWithSnapshots (start : SnapshotsOf) (snapshots : Snapshots) (past : List ReadLine) : Type 0 where
  pub replay : LedgerStandsFor snapshots.replay past
  pub clock : IsClock snapshots.clock past
  pub every : snapshots.clock.every ≡ start.every
  pub report : snapshots.report ≡ start.report

-- what a replay says of itself that puts snapshots: its spans are some milliseconds long
abbrev pub snapshot_rules : LineRules Snapshots
snapshot_rules = record {
  Start = SnapshotsOf;
  Stands = StandsWithSnapshots;
  noted = λ start. ledger_noted;
  Tells = λ start. TellsSnapshots start.every start.report;
  lines = λ snapshots. snapshots.replay.lines;
  IsReady = λ snapshots. 0 < snapshots.clock.every;
  fixed = λ snapshots. 0;
  Lacks = Unit {0};
}
