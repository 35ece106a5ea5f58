-- What a run leaves that reads a log to its end and tells it, by the moments of its lines and by the text of its report. The moments
-- are of lines of which the latest comes first.
use Rattle.std.specs.Prelude.{◌≡◌, ◌⊎◌, ℕ, Bool, List, [], ◌++◌, length, reverse, Result, Ok, Err, IfOk, IfErr, ◌||◌, if◌then◌else◌}
use Rattle.mtrace_log.specs.HasRead.{HasReadAll}
use Rattle.mtrace_log.specs.Shown.{ReaderState, WriterState}
use Rattle.mtrace_log.specs.Output.{Wrote, Begins}
use Rattle.mtrace_log.specs.Trace.{HasTakenAndFlushed, HasFailedToWrite}
use Rattle.mtrace_replay.specs.declared.held.diagnostic.Diagnostic.{Diagnostic}
use Rattle.mtrace_replay.specs.declared.runs.status.Status.{Status}
use Rattle.mtrace_replay.specs.declared.runs.status.Status.TheVariants.{Clean, Found}
use Rattle.mtrace_replay.specs.declared.runs.status.RunFault.{RunFault}
use Rattle.mtrace_replay.specs.declared.runs.status.RunFault.TheVariants.{Write}
use Rattle.mtrace_replay.specs.Entry.{Entry}
use Rattle.mtrace_replay.specs.Moment.{ReadLine, Given, Moment, half}
use Rattle.mtrace_replay.specs.History.{notes, pending, AreHeld, entries_of}
use Rattle.mtrace_replay.specs.Texts.{diagnostics_text, clean_or_found}
use Rattle.mtrace_replay.specs.Following.{with_unused, has_some, noted_text}

-- what a call leaves that puts a text and flushes: both are done, or, where it fails, a beginning is put
abbrev pub PutsAndFlushes : {T E : Type 0} → Result T E → (text : List ℕ) (old new : WriterState) → Type 0
PutsAndFlushes (Ok done) text old new = Wrote old new text × HasTakenAndFlushed old.calls new.calls
PutsAndFlushes (Err failure) text old new = Begins old new text × HasFailedToWrite old.calls new.calls

-- What a call leaves that ends a run, where this is wrong at the end, this is held, and this is the text of the report. It answers the
-- status, by whether a line had a diagnostic.
pub record Finishes (last : List Diagnostic) (entries : List Entry) (text : List ℕ) (has_diagnostics : Bool) (result : Result Status RunFault) (writer_old writer_new : WriterState) : Type 0 where
  pub put : PutsAndFlushes result (diagnostics_text last ++ text) writer_old writer_new
  pub status : IfOk result (λ status. status ≡ (if has_diagnostics || (has_some last || has_some entries) then Found else Clean))
  pub fault : IfErr result (λ fault. fault ≡ Write)

-- no report is told
abbrev pub TellsNothing : List ReadLine → List ℕ → Type 0
TellsNothing lines text = text ≡ []

-- the diagnostics of a log's lines, the first line first, with that of a last line `<`
abbrev pub all_diagnostics : (moments : List ReadLine → List Moment) → List ReadLine → List Diagnostic
all_diagnostics moments lines = notes (moments (reverse lines)) ++ half (length lines) (pending (reverse lines))

-- all of the log was read, and its diagnostics and then the text of its report were written; the status is that of its lines
pub record Reports (moments : List ReadLine → List Moment) (Tells : List ReadLine → List ℕ → Type 0) (status : Status) (reader_old reader_new : ReaderState) (writer_old writer_new : WriterState) : Type 0 where
  pub lines : List ReadLine
  pub read : HasReadAll reader_old.left reader_new.left lines
  pub text : List ℕ
  pub tells : Tells lines text
  pub wrote : Wrote writer_old writer_new (diagnostics_text (all_diagnostics moments lines) ++ text)
  pub all : List Given
  pub held : AreHeld all (moments (reverse lines))
  pub status_is : status ≡ clean_or_found (all_diagnostics moments lines) (entries_of all)

-- all of the log was read, and a beginning of that was written
pub record BeginsReport (moments : List ReadLine → List Moment) (Tells : List ReadLine → List ℕ → Type 0) (reader_old reader_new : ReaderState) (writer_old writer_new : WriterState) (lines : List ReadLine) : Type 0 where
  pub read : HasReadAll reader_old.left reader_new.left lines
  pub text : List ℕ
  pub tells : Tells lines text
  pub begun : Begins writer_old writer_new (diagnostics_text (all_diagnostics moments lines) ++ text)

-- The writer failed, after a beginning of the diagnostics of the lines read, or of all that is written. Unused are the bytes that were
-- asked of the reader and belong to no line that was read.
pub record StopsAtWrite (HasReadSome : (reader_old reader_new : ReaderState) → List ReadLine → Type 0) (moments : List ReadLine → List Moment) (Tells : List ReadLine → List ℕ → Type 0)
    (reader_old reader_new : ReaderState) (writer_old writer_new : WriterState) : Type 0 where
  pub lines : List ReadLine
  pub unused : List ℕ
  pub begun : (HasReadSome reader_old (with_unused unused reader_new) lines × Begins writer_old writer_new (noted_text (λ past. notes (moments past)) lines))
      ⊎ BeginsReport moments Tells reader_old (with_unused unused reader_new) writer_old writer_new lines
