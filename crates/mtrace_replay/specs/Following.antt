-- What a call leaves that reads the lines of a log, replays them, and puts what is wrong with each.
use Rattle.std.specs.Prelude.{◌≡◌, ◌⊎◌, ℕ, Bool, List, [], ◌∷◌, ◌++◌, length, reverse, Result, Ok, Err}
use Rattle.std.specs.Io.KnownBytes.{prepend_known}
use Rattle.mtrace_log.specs.HasRead.{HasRead, HasReadAll, HasReadBefore}
use Rattle.mtrace_log.specs.Progress.{HasMore, greatest_number}
use Rattle.mtrace_log.specs.Shown.{ReaderState, WriterState}
use Rattle.mtrace_log.specs.Output.{Wrote, Begins}
use Rattle.mtrace_log.specs.Trace.{HasGiven, HasGivenAll, HasGivenAndFailed, HasNotFailed, HasTaken, HasTakenAndFlushed, HasFailedToWrite, FlushWasAsked}
use Rattle.mtrace_replay.specs.declared.held.diagnostic.Diagnostic.{Diagnostic}
use Rattle.mtrace_replay.specs.declared.runs.status.RunFault.{RunFault}
use Rattle.mtrace_replay.specs.declared.runs.status.RunFault.TheVariants.{Read, Write, OutOfMemory}
use Rattle.mtrace_replay.specs.Moment.{ReadLine}
use Rattle.mtrace_replay.specs.Texts.{diagnostics_text}
pub use Rattle.mtrace_replay.specs.LineReplay.{has_some, Notes}
use Rattle.mtrace_replay.specs.LineReplay.{LineRules}

-- the reader, with bytes that were asked of it and belong to no line put back in front
abbrev pub with_unused : List ℕ → ReaderState → ReaderState
with_unused unused reader = record reader { left = prepend_known unused reader.left }

-- as many lines were read as there are numbers, more is to come, and the reader has not failed
pub record IsPastLastNumber (reader_old reader_new : ReaderState) (lines : List ReadLine) : Type 0 where
  pub count : length lines ≡ greatest_number
  pub read : HasRead reader_old.left reader_new.left lines
  pub more : HasMore reader_new.left
  pub given : HasGiven reader_old.calls reader_new.calls

-- the reader failed, once and last: whole lines were read, and perhaps a piece of the next one, which is lost
abbrev pub FailedInPiece : (reader_old reader_new : ReaderState) → List ReadLine → Type 0
FailedInPiece reader_old reader_new lines = HasReadBefore reader_old.left reader_new.left lines × HasGivenAndFailed reader_old.calls reader_new.calls

-- the lines were read, and the log's end was not
abbrev pub HasReadUpTo : (reader_old reader_new : ReaderState) → List ReadLine → Type 0
HasReadUpTo reader_old reader_new lines = HasRead reader_old.left reader_new.left lines

-- the lines were read, and perhaps to the end of the log
abbrev pub HasReadThese : (reader_old reader_new : ReaderState) → List ReadLine → Type 0
HasReadThese reader_old reader_new lines = HasRead reader_old.left reader_new.left lines ⊎ HasReadAll reader_old.left reader_new.left lines

-- the text of the diagnostics of lines, the first line first
abbrev pub noted_text : (noted : List ReadLine → List Diagnostic) → List ReadLine → List ℕ
noted_text noted lines = diagnostics_text (noted (reverse lines))

-- all lines of the log were read and followed, and what is told of them was written
pub record HasFollowed (Stands : List ReadLine → Type 0) (noted : List ReadLine → List Diagnostic) (Tells : List ReadLine → List ℕ → Type 0) (has_diagnostics : Bool) (reader_old reader_new : ReaderState) (writer_old writer_new : WriterState) : Type 0 where
  pub lines : List ReadLine
  pub read : HasReadAll reader_old.left reader_new.left lines
  pub stands : Stands (reverse lines)
  pub text : List ℕ
  pub told : Tells (reverse lines) text
  pub wrote : Wrote writer_old writer_new text
  pub has_diagnostics_is : has_diagnostics ≡ has_some (noted (reverse lines))

-- The reader failed, or a line past the last number would come. In the second case unused are the bytes that were
-- asked of the reader and belong to no line that was read. What is told of the lines read was written.
pub record StopsReading (Tells : List ReadLine → List ℕ → Type 0) (reader_old reader_new : ReaderState) (writer_old writer_new : WriterState) : Type 0 where
  pub lines : List ReadLine
  pub reason : FailedInPiece reader_old reader_new lines
      ⊎ ((unused : List ℕ) × IsPastLastNumber reader_old (with_unused unused reader_new) lines)
  pub text : List ℕ
  pub told : Tells (reverse lines) text
  pub wrote : Wrote writer_old writer_new text

-- The writer failed, after a beginning of what is told of the lines read. Unused are the bytes that were asked of the reader and
-- belong to no line that was read.
pub record StopsWriting (Stands : List ReadLine → Type 0) (Tells : List ReadLine → List ℕ → Type 0) (reader_old reader_new : ReaderState) (writer_old writer_new : WriterState) : Type 0 where
  pub lines : List ReadLine
  pub unused : List ℕ
  pub read : HasReadThese reader_old (with_unused unused reader_new) lines
  pub stands : Stands (reverse lines)
  pub text : List ℕ
  pub told : Tells (reverse lines) text
  pub begun : Begins writer_old writer_new text

-- Memory was refused, at the line behind these, or behind the last one of the log. What is told of these lines was written.
-- Unused are the bytes that were asked of the reader and belong to no line that was read.
pub record StopsWanting (Tells : List ReadLine → List ℕ → Type 0) (reader_old reader_new : ReaderState) (writer_old writer_new : WriterState) : Type 0 where
  pub lines : List ReadLine
  pub unused : List ℕ
  pub reason : ((line : ReadLine) × HasReadThese reader_old (with_unused unused reader_new) (lines ++ line ∷ []))
      ⊎ HasReadAll reader_old.left reader_new.left lines
  pub text : List ℕ
  pub told : Tells (reverse lines) text
  pub wrote : Wrote writer_old writer_new text

-- all of the log was read, and the whole text was written and flushed
pub record RunsToEnd (Finished : Type 0) (reader_old reader_new : ReaderState) (writer_old writer_new : WriterState) : Type 0 where
  pub finished : Finished
  pub reader_ended : HasGivenAll reader_old.calls reader_new.calls
  pub writer_flushed : HasTakenAndFlushed writer_old.calls writer_new.calls

-- the reading stopped, and then the writer was asked to flush
pub record RunsToRead (Tells : List ReadLine → List ℕ → Type 0) (reader_old reader_new : ReaderState) (writer_old writer_new : WriterState) : Type 0 where
  pub read_fault : StopsReading Tells reader_old reader_new writer_old writer_new
  pub flush_asked : FlushWasAsked writer_old.calls writer_new.calls

-- the writer failed, and the reader did not
pub record RunsToWrite (Stops : Type 0) (reader_old reader_new : ReaderState) (writer_old writer_new : WriterState) : Type 0 where
  pub write_fault : Stops
  pub writer_failed : HasFailedToWrite writer_old.calls writer_new.calls
  pub reader_not_failed : HasNotFailed reader_old.calls reader_new.calls

-- memory was refused, and then the writer was asked to flush; the reader did not fail
pub record RunsToMemory (Tells : List ReadLine → List ℕ → Type 0) (reader_old reader_new : ReaderState) (writer_old writer_new : WriterState) : Type 0 where
  pub memory : StopsWanting Tells reader_old reader_new writer_old writer_new
  pub flush_asked : FlushWasAsked writer_old.calls writer_new.calls
  pub reader_not_failed : HasNotFailed reader_old.calls reader_new.calls

-- how a reading of a whole log ended, by its answer, which is never `BadSettings` or `Image`
abbrev pub ReadEnds : (Stands : List ReadLine → Type 0) (noted : List ReadLine → List Diagnostic) (Tells : List ReadLine → List ℕ → Type 0) (Lacks : Type 0)
    → Result Bool RunFault → (reader_old reader_new : ReaderState) (writer_old writer_new : WriterState) → Type 0
ReadEnds Stands noted Tells Lacks (Ok has_diagnostics) reader_old reader_new writer_old writer_new =
    HasFollowed Stands noted Tells has_diagnostics reader_old reader_new writer_old writer_new
    × HasGivenAll reader_old.calls reader_new.calls × HasTaken writer_old.calls writer_new.calls
ReadEnds Stands noted Tells Lacks (Err Read) reader_old reader_new writer_old writer_new = RunsToRead Tells reader_old reader_new writer_old writer_new
ReadEnds Stands noted Tells Lacks (Err Write) reader_old reader_new writer_old writer_new =
    RunsToWrite (StopsWriting Stands Tells reader_old reader_new writer_old writer_new) reader_old reader_new writer_old writer_new
ReadEnds Stands noted Tells Lacks (Err OutOfMemory) reader_old reader_new writer_old writer_new =
    RunsToMemory Tells reader_old reader_new writer_old writer_new × Lacks
ReadEnds Stands noted Tells Lacks (Err _) reader_old reader_new writer_old writer_new = ⊥

-- what a call leaves that reads and follows a whole log from no line on, and puts what is told of its lines
pub record ReadsLog {R : Type 0} (rules : LineRules R) (result : Result Bool RunFault) (old new : R) (reader_old reader_new : ReaderState) (writer_old writer_new : WriterState) : Type 0 where
  pub ends : (start : rules.Start) → rules.Stands start old [] → rules.noted start [] ≡ []
      → ReadEnds (rules.Stands start new) (rules.noted start) (rules.Tells start) rules.Lacks result reader_old reader_new writer_old writer_new
  pub whole : reader_new.whole ≡ reader_old.whole
  pub fixed : rules.fixed new ≡ rules.fixed old
