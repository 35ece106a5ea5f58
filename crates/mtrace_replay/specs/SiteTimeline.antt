-- What the calls leave that tell what has changed behind the lines of a log.
use Rattle.std.specs.Prelude.{◌≡◌, ◌⊎◌, ◌≤◌, ℕ, List, reverse, take, [], Result, Ok, Err, IfOk, IfErr}
use Rattle.std.specs.List.{All}
use Rattle.mtrace_log.specs.Output.{PutsAll, PutsBeginning, Wrote}
use Rattle.mtrace_log.specs.Progress.{greatest_number}
use Rattle.mtrace_log.specs.Shown.{Bytes, ReaderState, WriterState}
use Rattle.mtrace_log.specs.Trace.{HasNotFailed, FlushWasAsked}
use Rattle.mtrace_replay.specs.declared.runs.status.RunFault.{RunFault}
use Rattle.mtrace_replay.specs.declared.runs.status.RunFault.TheVariants.{Read, Write, OutOfMemory}
use Rattle.mtrace_replay.specs.Moment.{ReadLine}
use Rattle.mtrace_replay.specs.Texts.{greatest}
use Rattle.mtrace_replay.specs.Again.{HasReadFirst, StopsEarly, begun_again, FailsAgain}
use Rattle.mtrace_replay.specs.MarkedReplay.{MarkedReplayed, IsToldOf}
use Rattle.mtrace_replay.specs.RunSiteTimeline.{TellsChanges, TellsLines}
use Rattle.mtrace_replay.specs.Reporting.{PutsAndFlushes}
use Rattle.mtrace_replay.specs.LedgerTimeline.{IsUntouchedOrBegan}
use Rattle.mtrace_replay.specs.declared.runs.status.Status.{Status}

-- What a call leaves that puts what has changed since the mark: all of it, or a beginning where the writer fails, or nothing where
-- memory is refused.
abbrev pub PutsChanges : MarkedReplayed → Result (Unit {0}) RunFault → (old new : WriterState) → Type 0
PutsChanges replay (Ok done) old new = (text : List ℕ) × IsToldOf replay text × PutsAll text old new
PutsChanges replay (Err Write) old new = (text : List ℕ) × IsToldOf replay text × PutsBeginning text old new
PutsChanges replay (Err OutOfMemory) old new = new ≡ old
PutsChanges replay (Err _) old new = ⊥

-- the text behind the lines of these numbers, with the bytes of the log before the first and behind the last
pub record ChangesOf (numbers : List ℕ) (before after : Bytes) (text : List ℕ) : Type 0 where
  pub again : List ReadLine
  pub read : HasReadFirst (greatest numbers) before after again
  pub told : TellsChanges again (reverse numbers) text

-- the text behind the first lines of these numbers, as many as were told
pub record FirstChanges (numbers : List ℕ) (before : Bytes) (text : List ℕ) : Type 0 where
  pub many : ℕ
  pub after : Bytes
  pub changes : ChangesOf (take many numbers) before after text

-- how a call ended that tells what has changed behind the lines of these numbers, by its answer
abbrev pub ReadsChanges : List ℕ → Result (Unit {0}) RunFault → (reader_old reader_new : ReaderState) (writer_old writer_new : WriterState) → Type 0
ReadsChanges numbers (Ok done) reader_old reader_new writer_old writer_new =
    (text : List ℕ) × ChangesOf numbers reader_old.left reader_new.left text × PutsAll text writer_old writer_new
    × HasNotFailed reader_old.calls reader_new.calls
ReadsChanges numbers (Err Read) reader_old reader_new writer_old writer_new =
    (text : List ℕ) × FirstChanges numbers reader_old.left text × PutsAll text writer_old writer_new
    × ((many : ℕ) → All (λ number. number ≤ many) numbers → many ≤ greatest_number → StopsEarly many reader_old reader_new)
ReadsChanges numbers (Err OutOfMemory) reader_old reader_new writer_old writer_new =
    (text : List ℕ) × FirstChanges numbers reader_old.left text × PutsAll text writer_old writer_new
    × HasNotFailed reader_old.calls reader_new.calls
ReadsChanges numbers (Err Write) reader_old reader_new writer_old writer_new =
    (text : List ℕ) × FirstChanges numbers reader_old.left text × PutsBeginning text writer_old writer_new
    × HasNotFailed reader_old.calls reader_new.calls
ReadsChanges numbers (Err _) reader_old reader_new writer_old writer_new = ⊥

-- the words and the text behind the first of these lines; nothing where the log didn't begin again
abbrev pub IsPutAgain : (numbers : List ℕ) → Bytes → List ℕ → Type 0
IsPutAgain numbers whole text = (text ≡ []) ⊎ ((many : ℕ) × (left : Bytes) × TellsLines (take many numbers) whole left text)

-- how a call ended that begins a log again and tells what has changed behind these lines, by its answer
abbrev pub TellsAgain : List ℕ → Result (Unit {0}) RunFault → (reader_old reader_new : ReaderState) (writer_old writer_new : WriterState) → Type 0
TellsAgain numbers (Ok done) reader_old reader_new writer_old writer_new =
    (text : List ℕ) × TellsLines numbers reader_old.whole reader_new.left text × PutsAll text writer_old writer_new
    × HasNotFailed (begun_again reader_old).calls reader_new.calls
TellsAgain numbers (Err Read) reader_old reader_new writer_old writer_new =
    (text : List ℕ) × IsPutAgain numbers reader_old.whole text × PutsAll text writer_old writer_new
    × ((many : ℕ) → All (λ number. number ≤ many) numbers → many ≤ greatest_number → FailsAgain many reader_old reader_new)
TellsAgain numbers (Err OutOfMemory) reader_old reader_new writer_old writer_new =
    (text : List ℕ) × IsPutAgain numbers reader_old.whole text × PutsAll text writer_old writer_new
    × IsUntouchedOrBegan reader_old reader_new
TellsAgain numbers (Err Write) reader_old reader_new writer_old writer_new =
    (text : List ℕ) × IsPutAgain numbers reader_old.whole text × PutsBeginning text writer_old writer_new
    × IsUntouchedOrBegan reader_old reader_new
TellsAgain numbers (Err _) reader_old reader_new writer_old writer_new = ⊥

-- what a call leaves that flushes behind a text, unless the writer failed before
abbrev pub FlushesTold : Result (Unit {0}) RunFault → Status → Result Status RunFault → (old new : WriterState) → Type 0
FlushesTold (Ok done) status result old new =
    IfOk result (λ answered. answered ≡ status) × IfErr result (λ fault. fault ≡ Write)
    × ((before : WriterState) (text : List ℕ) → PutsAll text before old → PutsAndFlushes result text before new)
FlushesTold (Err Write) status result old new = (result ≡ Err Write) × (new ≡ old)
FlushesTold (Err fault) status result old new =
    (result ≡ Err fault) × ((before : WriterState) (text : List ℕ) → PutsAll text before old → Wrote before new text × FlushWasAsked before.calls new.calls)
