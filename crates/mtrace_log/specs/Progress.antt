-- What `Lines` keeps between two calls, and what one call does.
use Rattle.std.specs.Prelude.{◌≡◌, ℕ, ◌+◌, ◌-◌, ◌^◌, ◌<◌, List, [], ◌∷◌, ◌++◌, length, Option, Some, None, Result, Err, IfOk, IfErr, IfSome, IfNone}
use Rattle.std.specs.Io.KnownBytes.{prepend_known, IsAtEnd}
use Rattle.mtrace_log.specs.Bytes.{Lacks, newline}
use Rattle.mtrace_log.specs.Reading.{ReadsAs}
use Rattle.mtrace_log.specs.Event.{Event}
use Rattle.mtrace_log.specs.declared.event.LineFault.{LineFault}
use Rattle.mtrace_log.specs.declared.event.LineFault.TheVariants.{TooLong}
use Rattle.mtrace_log.specs.Shown.{Bytes, ReaderState}
use Rattle.mtrace_log.specs.Trace.{HasGiven, HasGivenAll, HasGivenAndFailed}
use Rattle.mtrace_log.specs.declared.call.Call.{Call}
use Rattle.mtrace_log.specs.declared.line.Line.{Line}
use Rattle.mtrace_log.specs.declared.line.ReadFault.{ReadFault}
use Rattle.mtrace_log.specs.declared.line.ReadFault.TheVariants.{ReaderFailed, TooManyLines}

-- the most bytes that a reader is asked for at once
abbrev pub most_asked : ℕ
most_asked = 4096

-- lines are still read, or the end was told, or a fault was answered
pub data Stage : Type 0 where
  Reading : Stage
  Ended : Stage
  Faulted : ReadFault → Stage

-- the bytes asked of a reader that belong to no line yet, how many lines were given, and the stage. `last`: the
-- bytes of the line that was passed last, unless it was too long to be kept
pub record Progress : Type 0 where
  pub held : List ℕ
  pub count : ℕ
  pub stage : Stage
  pub last : Option (List ℕ)

-- what a line says whose bytes are kept, or that is too long
abbrev pub Says : Option (List ℕ) → Result Event LineFault → Type 0
Says (Some bytes) answer = ReadsAs bytes answer
Says None answer = answer ≡ Err TooLong

-- the text to come: the bytes held, and then what the reader has left
abbrev pub to_come : Progress → Bytes → Bytes
to_come lines left = prepend_known lines.held left

-- some byte is to come
abbrev pub HasMore : Option (List ℕ) → Type 0
HasMore text = (b : ℕ) × (rest : Option (List ℕ)) × (text ≡ prepend_known (b ∷ []) rest)

-- the greatest number of a line
abbrev pub greatest_number : ℕ
greatest_number = 2 ^ 64 - 1

-- One line of the text: while reading a piece with its newline, and at the end a piece that isn't
-- empty, behind which nothing comes. The piece reads as the answer.
abbrev pub ReadsLine : Stage → Bytes → Bytes → Result Event LineFault → Type 0
ReadsLine Reading before after answer = (piece : List ℕ) × Lacks newline piece × ReadsAs piece answer
    × (before ≡ prepend_known (piece ++ newline ∷ []) after)
ReadsLine Ended before after answer = (piece : List ℕ) × Lacks newline piece × ReadsAs piece answer
    × (before ≡ prepend_known piece after) × (0 < length piece) × IsAtEnd after
ReadsLine (Faulted fault) before after answer = ⊥

-- a call gave a line: the next one of the text, with the next number
pub record GivesLine (old new : Progress) (before after : Bytes) (line : Line) : Type 0 where
  pub was_reading : old.stage ≡ Reading
  pub number : line.number ≡ old.count + 1
  pub count : new.count ≡ line.number
  pub taken : ReadsLine new.stage before after line.event

-- a call passed over a line: whatever that says, it is the next one of the text, with this number
abbrev pub PassesLine : (old new : Progress) (before after : Bytes) → ℕ → Type 0
PassesLine old new before after number =
    (answer : Result Event LineFault) → Says new.last answer → GivesLine old new before after (record { number = number; event = answer })

-- a call that gave no line found the end of the text. Where the end was told before, it asked nothing and changed
-- nothing
abbrev pub FindsEnd : {R : Type 0} → Stage → (old new : Progress) → (reader_old reader_new : R) → Bytes → Bytes → Type 0
FindsEnd Reading old new reader_old reader_new before after = (new.count ≡ old.count) × (before ≡ after) × IsAtEnd after
FindsEnd Ended old new reader_old reader_new before after = (new ≡ old) × (reader_new ≡ reader_old)
FindsEnd (Faulted fault) old new reader_old reader_new before after = ⊥

-- A first fault. The reader failed in this call, within a piece that is lost. Or there are as many lines as there are
-- numbers, and more is to come.
abbrev pub StopsReading : ReadFault → ℕ → Bytes → Bytes → Type 0
StopsReading ReaderFailed count before after = (piece : List ℕ) × Lacks newline piece × (before ≡ prepend_known piece after)
StopsReading TooManyLines count before after = (count ≡ greatest_number) × (before ≡ after) × HasMore after

-- A fault: a first one, or the same one again, which asked nothing and changed nothing.
abbrev pub GivesFault : {R : Type 0} → Stage → ReadFault → (old new : Progress) → (reader_old reader_new : R) → (before after : Bytes) → Type 0
GivesFault Reading fault old new reader_old reader_new before after = (new.stage ≡ Faulted fault)
    × (new.count ≡ old.count) × StopsReading fault old.count before after
GivesFault Ended fault old new reader_old reader_new before after = ⊥
GivesFault (Faulted first) fault old new reader_old reader_new before after = (fault ≡ first)
    × (new ≡ old) × (reader_new ≡ reader_old)

-- The calls of the reader, by the stage that they led to. They gave pieces alone, or pieces and then, once and last,
-- its end or its failure. Where no number is left, the reader has not failed.
abbrev pub CallsFor : Stage → List Call → List Call → Type 0
CallsFor Reading old new = HasGiven old new
CallsFor Ended old new = HasGivenAll old new
CallsFor (Faulted ReaderFailed) old new = HasGivenAndFailed old new
CallsFor (Faulted TooManyLines) old new = HasGiven old new

-- A call at any stage: it gives the next line, finds the end, or gives a fault. What came of the calls of
-- the reader is told where lines were read. Where it failed, all that it gave is taken: the text to come is what it has left.
pub record Advances {R T : Type 0} (Gives : (old new : Progress) (before after : Bytes) → T → Type 0) (shown : R → ReaderState)
    (result : Result (Option T) ReadFault) (old new : Progress) (reader_old reader_new : R) : Type 0 where
  pub line : IfOk result (λ found. IfSome found (λ line. Gives old new (to_come old (shown reader_old).left) (to_come new (shown reader_new).left) line))
  pub end : IfOk result (λ found. IfNone found ((new.stage ≡ Ended)
      × FindsEnd old.stage old new reader_old reader_new (to_come old (shown reader_old).left) (to_come new (shown reader_new).left)))
  pub fault : IfErr result (λ fault. GivesFault old.stage fault old new reader_old reader_new (to_come old (shown reader_old).left) (to_come new (shown reader_new).left))
  pub calls : old.stage ≡ Reading → CallsFor new.stage (shown reader_old).calls (shown reader_new).calls
  pub nothing_held : IfErr result (λ fault. fault ≡ ReaderFailed → new.held ≡ [])
  pub whole : (shown reader_new).whole ≡ (shown reader_old).whole
