-- What a run leaves that tells which heaps by size serve a log.
use Rattle.std.specs.Prelude.{◌≡◌, ◌⊎◌, ◌||◌, ◌==◌, ℕ, nat_lt, Bool, true, false, List, [], reverse, Result, Ok, Err, IsErrOf}
use Rattle.mtrace_log.specs.Shown.{ReaderState, WriterState}
use Rattle.mtrace_log.specs.Output.{Wrote, Begins}
use Rattle.mtrace_log.specs.Trace.{HasTakenAndFlushed, HasFailedToWrite}
use Rattle.mtrace_replay.specs.declared.runs.status.Status.{Status}
use Rattle.mtrace_replay.specs.declared.runs.status.RunFault.{RunFault}
use Rattle.mtrace_replay.specs.declared.runs.status.RunFault.TheVariants.{Write, BadSettings, OutOfMemory}
use Rattle.mtrace_replay.specs.declared.parts.replay.CountedReplay.{CountedReplay}
use Rattle.mtrace_replay.specs.Course.{Course, shown_before, shown_after}
use Rattle.mtrace_replay.specs.Moment.{ReadLine}
use Rattle.mtrace_replay.specs.Run.{NothingDone}
use Rattle.mtrace_replay.specs.LedgerReplay.{LedgerStandsFor}
use Rattle.mtrace_replay.specs.RunLedger.{RunsLedgerBy}
use Rattle.mtrace_replay.specs.Reporting.{TellsNothing, Reports}
use Rattle.mtrace_replay.specs.Again.{RunsFirst}
use Rattle.mtrace_replay.specs.Fronted.{fronted, fronted_ledger_moments}
use Rattle.mtrace_replay.specs.Spans.{AreCountedOf}
use Rattle.mtrace_replay.specs.Parts.{TellsParts}

-- there are no heaps, or more than eight
abbrev pub is_bad_heaps : ℕ → Bool
is_bad_heaps heaps = (heaps == 0) || nat_lt 8 heaps

-- what follows the lines: the text is put and flushed, or a beginning of it is put and the writer failed, or memory was refused and
-- nothing more was written
abbrev pub PartsFollow : (heaps : ℕ) (lines : List ReadLine) (result : Result Status RunFault) (writer_old writer_new : WriterState) → Type 0
PartsFollow heaps lines (Ok answered) writer_old writer_new =
    (text : List ℕ) × TellsParts heaps lines text × Wrote writer_old writer_new text × HasTakenAndFlushed writer_old.calls writer_new.calls
PartsFollow heaps lines (Err Write) writer_old writer_new =
    (text : List ℕ) × TellsParts heaps lines text × Begins writer_old writer_new text × HasFailedToWrite writer_old.calls writer_new.calls
PartsFollow heaps lines (Err OutOfMemory) writer_old writer_new = writer_new ≡ writer_old
PartsFollow heaps lines (Err _) writer_old writer_new = ⊥

-- that follows, and nothing more is read
abbrev pub PartsFollowAlone : {R W : Type 0} → (heaps : ℕ) (lines : List ReadLine) (result : Result Status RunFault) (reader : Course R ReaderState) (writer : Course W WriterState) → Type 0
PartsFollowAlone heaps lines result reader writer = (reader.new ≡ reader.old) × PartsFollow heaps lines result (shown_before writer) (shown_after writer)

-- what a run without a heap and without a report leaves of a log whose requests are larger by the front
abbrev pub RunsLedgerFronted : {R W : Type 0} → (front : ℕ) → Result Status RunFault → Course R ReaderState → Course W WriterState → Type 0
RunsLedgerFronted front run reader writer = RunsLedgerBy (fronted_ledger_moments front) TellsNothing run (shown_before reader) (shown_after reader) (shown_before writer) (shown_after writer)

-- What a run leaves that tells at most `heaps` heaps by size that serve a log whose requests are larger by the front. Where there
-- are no heaps, or more than eight, nothing is done; nor where memory is refused before the first line.
pub record RunsParts {R W : Type 0} (front heaps : ℕ) (result : Result Status RunFault) (reader : Course R ReaderState) (writer : Course W WriterState) : Type 0 where
  pub bad_heaps : is_bad_heaps heaps ≡ true → (result ≡ Err BadSettings) × NothingDone reader writer
  pub runs : is_bad_heaps heaps ≡ false → (IsErrOf result OutOfMemory × NothingDone reader writer)
      ⊎ RunsFirst (RunsLedgerFronted front) (fronted_ledger_moments front) TellsNothing (λ lines. PartsFollowAlone heaps (fronted front lines)) result reader writer

-- nothing was followed yet
pub record IsStart (replay : CountedReplay) : Type 0 where
  pub stands : LedgerStandsFor replay.ledger []
  pub counted : AreCountedOf [] replay.spans

-- some lines were followed, and their blocks were counted
abbrev pub HasLines : CountedReplay → Type 0
HasLines replay = (lines : List ReadLine) × LedgerStandsFor replay.ledger (reverse lines) × AreCountedOf (reverse lines) replay.spans

-- a run without a report, and the replay in the end
pub record EndsCounted (front : ℕ) (status : Status) (replay : CountedReplay) (reader_old reader_new : ReaderState) (writer_old writer_new : WriterState) : Type 0 where
  pub reports : Reports (fronted_ledger_moments front) TellsNothing status reader_old reader_new writer_old writer_new
  pub stands : LedgerStandsFor replay.ledger (fronted front (reverse reports.lines))
  pub counted : AreCountedOf (fronted front (reverse reports.lines)) replay.spans
