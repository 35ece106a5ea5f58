-- A log that is read again.
use Rattle.std.specs.Prelude.{◌≡◌, ◌≢◌, ◌⊎◌, ℕ, ◌<◌, ◌≤◌, List, [], ◌∷◌, length, reverse, Result, Ok, Err, IfOk, IfErr, OnOk, OnErr, IsErrOf}
use Rattle.std.specs.Io.KnownBytes.{prepend_known}
use Rattle.mtrace_log.specs.Shown.{Bytes, ReaderState, WriterState}
use Rattle.mtrace_log.specs.HasRead.{HasRead, HasReadAll}
use Rattle.mtrace_log.specs.Progress.{most_asked}
use Rattle.mtrace_log.specs.Trace.{HasNotFailed, HasGivenAll}
use Rattle.mtrace_replay.specs.declared.heap.settings.Settings.{Settings}
use Rattle.mtrace_replay.specs.Course.{Course, shown_before, shown_after, until, since}
use Rattle.mtrace_replay.specs.Started.{started}
use Rattle.mtrace_replay.specs.Moment.{ReadLine, Moment}
use Rattle.mtrace_replay.specs.History.{moments}
use Rattle.mtrace_replay.specs.Replay.{Replayed, StandsFor}
use Rattle.mtrace_replay.specs.declared.runs.report.Report.TheVariants.{Nothing}
use Rattle.mtrace_replay.specs.declared.runs.status.Status.{Status}
use Rattle.mtrace_replay.specs.declared.runs.status.RunFault.{RunFault}
use Rattle.mtrace_replay.specs.declared.runs.status.RunFault.TheVariants.{Read, Write}
use Rattle.mtrace_replay.specs.Reporting.{PutsAndFlushes, Reports}
use Rattle.mtrace_replay.specs.Run.{TellsReport, Runs, NothingDone}
use Rattle.mtrace_replay.specs.Following.{FailedInPiece}
use Rattle.mtrace_log.specs.declared.call.Call.TheVariants.{Began, Failed}

-- The first lines of a text were read, this many. Unused are the bytes that were asked of the reader and belong to none of
-- them: no more than are asked for at once.
pub record HasReadFirst (many : ℕ) (before after : Bytes) (lines : List ReadLine) : Type 0 where
  pub count : length lines ≡ many
  pub unused : List ℕ
  pub few : length unused ≤ most_asked
  pub read : HasRead before (prepend_known unused after) lines ⊎ HasReadAll before after lines

-- The text has fewer lines than this, and the reader told its end.
pub record EndsEarly (many : ℕ) (reader_old reader_new : ReaderState) : Type 0 where
  pub lines : List ReadLine
  pub fewer : length lines < many
  pub read : HasReadAll reader_old.left reader_new.left lines
  pub told : HasGivenAll reader_old.calls reader_new.calls

-- The reader failed before it gave this many lines, or has fewer.
abbrev pub StopsEarly : (many : ℕ) (reader_old reader_new : ReaderState) → Type 0
StopsEarly many reader_old reader_new =
    ((first : List ReadLine) × (length first < many) × FailedInPiece reader_old reader_new first) ⊎ EndsEarly many reader_old reader_new

-- the reader, where it has begun again
abbrev pub begun_again : ReaderState → ReaderState
begun_again reader = record reader { left = reader.whole; calls = Began ∷ reader.calls }

-- those lines were replayed
pub record HasReplayedFirst (many : ℕ) (settings : Settings) (replay : Replayed) (left_old left_new : Bytes) : Type 0 where
  pub lines : List ReadLine
  pub read : HasReadFirst many left_old left_new lines
  pub stands : StandsFor replay settings (reverse lines)

-- The reader didn't begin again, or failed while this many lines were read again, or has fewer lines then.
abbrev pub FailsAgain : (many : ℕ) (reader_old reader_new : ReaderState) → Type 0
FailsAgain many reader_old reader_new =
    ((reader_new.left ≡ reader_old.left) × (reader_new.calls ≡ Failed ∷ reader_old.calls)) ⊎ StopsEarly many (begun_again reader_old) reader_new

-- What a call leaves that begins a text again, and replays its first lines. They were replayed, or the reader failed.
pub record ReplaysFirst {E : Type 0} (many : ℕ) (result : Result (Unit {0}) E) (replay_old replay_new : Replayed) (reader_old reader_new : ReaderState) : Type 0 where
  pub done : OnOk result ((settings : Settings) → StandsFor replay_old settings [] → HasReplayedFirst many settings replay_new reader_old.whole reader_new.left)
  pub not_failed : OnOk result (HasNotFailed (begun_again reader_old).calls reader_new.calls)
  pub read : OnErr result ((settings : Settings) → StandsFor replay_old settings [] → FailsAgain many reader_old reader_new)
  pub whole : reader_new.whole ≡ reader_old.whole
  pub records : replay_new.content.records ≡ replay_old.content.records

-- What follows a first reading. The log was read again, and a text was written: a beginning where the writer failed,
-- nothing where the reader did.
pub record Follows {R W : Type 0} (Tells : (left_new : Bytes) (text : List ℕ) → Type 0) (HasWorked Fails : (reader_old reader_new : ReaderState) → Type 0)
    (result : Result Status RunFault) (reader : Course R ReaderState) (writer : Course W WriterState) : Type 0 where
  pub faults : IfErr result (λ fault. (fault ≡ Read) ⊎ (fault ≡ Write))
  pub told : result ≢ Err Read → (text : List ℕ) × Tells (shown_after reader).left text × PutsAndFlushes result text (shown_before writer) (shown_after writer)
  pub reader_not_failed : result ≢ Err Read → HasWorked (shown_before reader) (shown_after reader)
  pub read_fault : IsErrOf result Read → Fails (shown_before reader) (shown_after reader)
  pub nothing_put : IsErrOf result Read → writer.new ≡ writer.old

-- the log was read to its end and its diagnostics written, up to the middle, and then what follows for its lines
pub record EndsFirst {R W : Type 0} (moments : List ReadLine → List Moment) (Tells : List ReadLine → List ℕ → Type 0)
    (After : List ReadLine → Result Status RunFault → Course R ReaderState → Course W WriterState → Type 0)
    (status : Status) (result : Result Status RunFault) (reader : Course R ReaderState) (writer : Course W WriterState) (reader_middle : R) (writer_middle : W) : Type 0 where
  pub reports : Reports moments Tells status (shown_before reader) (reader.shown reader_middle) (shown_before writer) (writer.shown writer_middle)
  pub answer : IfOk result (λ answered. answered ≡ status)
  pub follow : After reports.lines result (since reader reader_middle) (since writer writer_middle)

-- what follows a run: where that failed nothing more was done, and its fault is the answer
abbrev pub GoesOnFrom : {R W : Type 0} → (moments : List ReadLine → List Moment) (Tells : List ReadLine → List ℕ → Type 0)
    (After : List ReadLine → Result Status RunFault → Course R ReaderState → Course W WriterState → Type 0)
    → (run result : Result Status RunFault) (reader : Course R ReaderState) (writer : Course W WriterState) (reader_middle : R) (writer_middle : W) → Type 0
GoesOnFrom moments Tells After (Ok status) result reader writer reader_middle writer_middle =
    EndsFirst moments Tells After status result reader writer reader_middle writer_middle
GoesOnFrom moments Tells After (Err fault) result reader writer reader_middle writer_middle =
    (result ≡ Err fault) × NothingDone (since reader reader_middle) (since writer writer_middle)

-- What a run leaves that does more behind a first run, which goes up to the middle.
pub record RunsFirst {R W : Type 0} (First : Result Status RunFault → Course R ReaderState → Course W WriterState → Type 0)
    (moments : List ReadLine → List Moment) (Tells : List ReadLine → List ℕ → Type 0) (After : List ReadLine → Result Status RunFault → Course R ReaderState → Course W WriterState → Type 0)
    (result : Result Status RunFault) (reader : Course R ReaderState) (writer : Course W WriterState) : Type 0 where
  pub run : Result Status RunFault
  pub reader_middle : R
  pub writer_middle : W
  pub runs : First run (until reader reader_middle) (until writer writer_middle)
  pub goes_on : GoesOnFrom moments Tells After run result reader writer reader_middle writer_middle

-- what a run leaves that reads its log again: first a run on a heap without a report
abbrev pub RunsAgain : {R W : Type 0} → (settings : Settings) (After : List ReadLine → Result Status RunFault → Course R ReaderState → Course W WriterState → Type 0)
    → Result Status RunFault → Course R ReaderState → Course W WriterState → Type 0
RunsAgain settings After = RunsFirst (Runs Nothing settings) (moments (started settings)) (TellsReport Nothing settings) After
