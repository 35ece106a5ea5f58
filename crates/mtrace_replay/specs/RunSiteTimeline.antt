-- What a run leaves that tells what each location holds over the lines of a log, without a heap.
use Rattle.std.specs.Prelude.{◌≡◌, ◌⊎◌, ℕ, true, false, List, [], ◌∷◌, ◌++◌, length, take, reverse, Result, Ok, Err}
use Rattle.mtrace_log.specs.Output.{Wrote, Begins}
use Rattle.mtrace_log.specs.Shown.{Bytes, ReaderState, WriterState}
use Rattle.mtrace_log.specs.Trace.{HasNotFailed, HasTakenAndFlushed, HasFailedToWrite, FlushWasAsked}
use Rattle.mtrace_replay.specs.declared.ledger.point.LedgerPoint.{LedgerPoint}
use Rattle.mtrace_replay.specs.declared.runs.status.Status.{Status}
use Rattle.mtrace_replay.specs.declared.runs.status.RunFault.{RunFault}
use Rattle.mtrace_replay.specs.declared.runs.status.RunFault.TheVariants.{Read, Write, OutOfMemory, BadSettings}
use Rattle.mtrace_replay.specs.Course.{Course, shown_before, shown_after}
use Rattle.mtrace_replay.specs.Moment.{ReadLine, Given}
use Rattle.mtrace_replay.specs.History.{AreHeld, entries_of}
use Rattle.mtrace_replay.specs.Totals.{IsPeak, first_moments}
use Rattle.mtrace_replay.specs.Texts.{changes_text, greatest, ledger_timeline_words}
use Rattle.mtrace_replay.specs.Timeline.{is_bad_stretches, AreTold}
use Rattle.mtrace_replay.specs.Sites.{Site}
use Rattle.mtrace_replay.specs.Changes.{AreChanges}
use Rattle.mtrace_replay.specs.Run.{NothingDone}
use Rattle.mtrace_replay.specs.Again.{HasReadFirst, begun_again, FailsAgain}
use Rattle.mtrace_replay.specs.LedgerReplay.{ledger_history}
use Rattle.mtrace_replay.specs.RunLedger.{RunsLedgerFirst}
use Rattle.mtrace_replay.specs.LedgerTimeline.{IsPointOfLines, IsUntouchedOrBegan}

-- the text behind these lines: what is held, and what each location holds that has changed since the line of this number
pub record TellsChange (before : ℕ) (lines : List ReadLine) (text : List ℕ) : Type 0 where
  pub point : LedgerPoint
  pub exact : IsPointOfLines lines point
  pub line_is : point.line ≡ length lines
  pub held_before : List Given
  pub before_are : AreHeld held_before (first_moments before (ledger_history lines))
  pub held_now : List Given
  pub now_are : AreHeld held_now (ledger_history lines)
  pub sites : List Site
  pub changes : AreChanges (entries_of held_before) (entries_of held_now) sites
  pub text_is : text ≡ changes_text point sites

-- the line that was told last, 0 where none was: the latest comes first
abbrev pub last_told : List ℕ → ℕ
last_told [] = 0
last_told (number ∷ numbers) = number

-- one line more is told
pub record TellsOneMore (Before : List ℕ → Type 0) (last number : ℕ) (lines : List ReadLine) (text : List ℕ) : Type 0 where
  pub earlier : List ℕ
  pub told : Before earlier
  pub its : List ℕ
  pub change : TellsChange last (take number lines) its
  pub text_is : text ≡ earlier ++ its

-- the text of what changed among these lines, behind those of these numbers, of which the latest comes first
abbrev pub TellsChanges : List ReadLine → List ℕ → List ℕ → Type 0
TellsChanges lines [] text = text ≡ []
TellsChanges lines (number ∷ numbers) text = TellsOneMore (TellsChanges lines numbers) (last_told numbers) number lines text

-- the text of what changed behind the lines of these numbers, of which the first comes first: lines were read again, from the first
-- byte on, up to the greatest of these numbers
pub record TellsLines (numbers : List ℕ) (whole left : Bytes) (text : List ℕ) : Type 0 where
  pub again : List ReadLine
  pub read : HasReadFirst (greatest numbers) whole left again
  pub changed : List ℕ
  pub told : TellsChanges again (reverse numbers) changed
  pub text_is : text ≡ ledger_timeline_words ++ changed

-- the numbers of the lines that are told of a log with these lines
pub record AreToldOf (stretches : ℕ) (lines : List ReadLine) (numbers : List ℕ) : Type 0 where
  pub peak_bytes : ℕ
  pub peak_line : ℕ
  pub peak : IsPeak (ledger_history lines) peak_bytes peak_line
  pub told : AreTold (length lines) peak_line stretches numbers

-- The text of what each location holds over the lines of a log.
pub record TellsSiteTimeline (stretches : ℕ) (lines : List ReadLine) (whole left : Bytes) (text : List ℕ) : Type 0 where
  pub numbers : List ℕ
  pub numbers_are : AreToldOf stretches lines numbers
  pub tells : TellsLines numbers whole left text

-- the text behind the first of the lines that are told
pub record TellsSome (stretches : ℕ) (lines : List ReadLine) (whole : Bytes) (text : List ℕ) : Type 0 where
  pub numbers : List ℕ
  pub numbers_are : AreToldOf stretches lines numbers
  pub many : ℕ
  pub left : Bytes
  pub tells : TellsLines (take many numbers) whole left text

-- what is put where the second reading ends early: nothing, or the text behind the first of the lines that are told
abbrev pub TellsFirst : (stretches : ℕ) (lines : List ReadLine) (whole : Bytes) (text : List ℕ) → Type 0
TellsFirst stretches lines whole text = (text ≡ []) ⊎ TellsSome stretches lines whole text

-- What follows the first reading, by the answer. The log was read again, and what changed was written. Or the reader failed, or
-- memory was refused: then the text behind the first of the lines that are told was written, or nothing. Or the writer failed.
abbrev pub SitesFollow : {R W : Type 0} → (stretches : ℕ) (lines : List ReadLine) → Result Status RunFault → Course R ReaderState → Course W WriterState → Type 0
SitesFollow stretches lines (Ok status) reader writer =
    (text : List ℕ) × TellsSiteTimeline stretches lines (shown_before reader).whole (shown_after reader).left text
    × Wrote (shown_before writer) (shown_after writer) text × HasTakenAndFlushed (shown_before writer).calls (shown_after writer).calls
    × HasNotFailed (begun_again (shown_before reader)).calls (shown_after reader).calls
SitesFollow stretches lines (Err Read) reader writer =
    (text : List ℕ) × TellsFirst stretches lines (shown_before reader).whole text
    × Wrote (shown_before writer) (shown_after writer) text × FlushWasAsked (shown_before writer).calls (shown_after writer).calls
    × FailsAgain (length lines) (shown_before reader) (shown_after reader)
SitesFollow stretches lines (Err OutOfMemory) reader writer =
    (text : List ℕ) × TellsFirst stretches lines (shown_before reader).whole text
    × Wrote (shown_before writer) (shown_after writer) text × FlushWasAsked (shown_before writer).calls (shown_after writer).calls
    × IsUntouchedOrBegan (shown_before reader) (shown_after reader)
SitesFollow stretches lines (Err Write) reader writer =
    (text : List ℕ) × TellsFirst stretches lines (shown_before reader).whole text
    × Begins (shown_before writer) (shown_after writer) text × HasFailedToWrite (shown_before writer).calls (shown_after writer).calls
    × IsUntouchedOrBegan (shown_before reader) (shown_after reader)
SitesFollow stretches lines (Err _) reader writer = ⊥

-- What a run leaves that tells what each location holds over the lines of a log. Where the number of stretches is bad, nothing is done.
pub record RunsSiteTimeline {R W : Type 0} (stretches : ℕ) (result : Result Status RunFault) (reader : Course R ReaderState) (writer : Course W WriterState) : Type 0 where
  pub bad_stretches : is_bad_stretches stretches ≡ true → (result ≡ Err BadSettings) × NothingDone reader writer
  pub runs : is_bad_stretches stretches ≡ false → RunsLedgerFirst (SitesFollow stretches) result reader writer
