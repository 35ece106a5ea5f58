-- The outcomes of the calls of a reader or of a writer, the latest first, and what of them a clause says.
use Rattle.std.specs.Prelude.{◌≡◌, ℕ, zero, suc, List, ◌∷◌, ◌++◌, map, Result, Ok, Err, ◌⊎◌}
use Rattle.mtrace_log.specs.declared.failed.Failed.{Failed as Failure}
use Rattle.mtrace_log.specs.declared.call.Call.{Call}
use Rattle.mtrace_log.specs.declared.call.Call.TheVariants.{Gave, Ended, Began, Took, Flushed, FlushFailed, Failed}

-- a reader's answer: 0 tells its end
abbrev pub pulled : Result ℕ Failure → Call
pulled (Ok zero) = Ended
pulled (Ok (suc count)) = Gave (suc count)
pulled (Err failure) = Failed

-- a reader's answer where it is to begin again
abbrev pub began : Result (Unit {0}) Failure → Call
began (Ok done) = Began
began (Err failure) = Failed

-- a writer's answer to this many bytes: to take no byte of some is a failure
abbrev pub offered : ℕ → Result ℕ Failure → Call
offered zero (Ok count) = Took count
offered (suc bytes) (Ok zero) = Failed
offered (suc bytes) (Ok (suc count)) = Took (suc count)
offered bytes (Err failure) = Failed

-- a writer's answer to a flush
abbrev pub flushed : Result (Unit {0}) Failure → Call
flushed (Ok done) = Flushed
flushed (Err failure) = FlushFailed

-- each call since the old trace moved bytes, this many each
pub record Moved (by : ℕ → Call) (old new : List Call) : Type 0 where
  pub counts : List ℕ
  pub calls : new ≡ map by counts ++ old

-- and then one call more, with the outcome `last`
pub record MovedThen (by : ℕ → Call) (last : Call) (old new : List Call) : Type 0 where
  pub middle : List Call
  pub moved : Moved by old middle
  pub then : new ≡ last ∷ middle

-- ---- a reader, in one reading: it doesn't begin again

-- it gave pieces
abbrev pub HasGiven : List Call → List Call → Type 0
HasGiven old new = Moved Gave old new

-- it gave pieces, and then, once and last, told its end
abbrev pub HasGivenAll : List Call → List Call → Type 0
HasGivenAll old new = MovedThen Gave Ended old new

-- it gave pieces, and then, once and last, failed
abbrev pub HasGivenAndFailed : List Call → List Call → Type 0
HasGivenAndFailed old new = MovedThen Gave Failed old new

-- it gave pieces, and perhaps told its end, once and last
abbrev pub HasNotFailed : List Call → List Call → Type 0
HasNotFailed old new = HasGiven old new ⊎ HasGivenAll old new

-- ---- a writer

-- it took pieces
abbrev pub HasTaken : List Call → List Call → Type 0
HasTaken old new = Moved Took old new

-- it took pieces, and then, once and last, flushed
abbrev pub HasTakenAndFlushed : List Call → List Call → Type 0
HasTakenAndFlushed old new = MovedThen Took Flushed old new

-- it took pieces, and then, once and last, failed to take any of some bytes
abbrev pub HasTakenAndFailed : List Call → List Call → Type 0
HasTakenAndFailed old new = MovedThen Took Failed old new

-- it took pieces, and then, once and last, was asked to flush, whatever came of it
abbrev pub FlushWasAsked : List Call → List Call → Type 0
FlushWasAsked old new = HasTakenAndFlushed old new ⊎ MovedThen Took FlushFailed old new

-- it took pieces, and then, once and last, failed: to take bytes, or to flush
abbrev pub HasFailedToWrite : List Call → List Call → Type 0
HasFailedToWrite old new = HasTakenAndFailed old new ⊎ MovedThen Took FlushFailed old new
