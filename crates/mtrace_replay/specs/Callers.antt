-- Who asks: the calls of a log, by the locations that they name. A call is a line that was given a block.
use Rattle.std.specs.Prelude.{◌≡◌, ℕ, ◌<◌, List, [], ◌∷◌, length, Option, None, Some, Ok, if◌then◌else◌, ◌==◌}
use Rattle.std.specs.List.{All, Any}
use Rattle.std.specs.List.Sorted.{IsStrictlySortedBy}
use Rattle.std.specs.Ordering.{nat_cmp, ordering_then}
use Rattle.std.specs.declared.cmp.Ordering.{Ordering}
use Rattle.mtrace_log.specs.declared.event.Event.TheVariants.{Free}
use Rattle.mtrace_replay.specs.Entry.{Entry}
use Rattle.mtrace_replay.specs.Moment.{ReadLine, Given, Moment}
use Rattle.mtrace_replay.specs.History.{held}
use Rattle.mtrace_replay.specs.Sites.{Origin, origin_cmp, blocks_at, bytes_at}
use Rattle.mtrace_replay.specs.Texts.{total_size}
use Rattle.mtrace_replay.specs.declared.held.count.Count.{Count}
use Rattle.mtrace_replay.specs.Calls.{Caller, Called, called_at}

-- the calls with the entry in front that was given a block, if one was
abbrev pub with_call : Option Given → List Entry → List Entry
with_call None calls = calls
with_call (Some given) calls = given.entry ∷ calls

-- the calls of moments, the latest first, each with the entry that it was given
abbrev pub calls_in : List Moment → List Entry
calls_in [] = []
calls_in (moment ∷ past) = with_call moment.given (calls_in past)

-- the calls with what an address is held under in front, if the line of this number made it
abbrev pub with_call_of : ℕ → Option Given → List Entry → List Entry
with_call_of number None calls = calls
with_call_of number (Some given) calls = if given.entry.line == number then given.entry ∷ calls else calls

-- the call of the line of this number, where the line behind it is `-` and releases its block, before others
abbrev pub with_temporary : ℕ → ReadLine → (ℕ → Option Given) → List Entry → List Entry
with_temporary number (Ok (Free at address)) held calls = with_call_of number (held address) calls
with_temporary number line held calls = calls

-- the temporary calls of lines and their moments, the latest first: those whose block is released by the very next line
abbrev pub temporary_in : List ReadLine → List Moment → List Entry
temporary_in (line ∷ lines) (moment ∷ past) = with_temporary (length lines) line (held past) (temporary_in lines past)
temporary_in lines past = []

-- most calls first, then most bytes, then by the origin
abbrev pub caller_cmp : Caller → Caller → Ordering
caller_cmp c d = ordering_then (ordering_then (nat_cmp d.calls c.calls) (nat_cmp d.bytes c.bytes)) (origin_cmp c.at d.at)

-- a caller counts and sums exactly the calls of its origin, and there are some
pub record IsCallerOf (calls temporary : List Entry) (c : Caller) : Type 0 where
  pub some : 0 < c.calls
  pub calls_are : c.calls ≡ blocks_at c.at calls
  pub bytes_are : c.bytes ≡ bytes_at c.at calls
  pub temporary_are : c.temporary ≡ blocks_at c.at temporary

-- the callers of calls: strictly in their order, each exact, and each call's origin has one
pub record AreCallers (calls temporary : List Entry) (callers : List Caller) : Type 0 where
  pub order : IsStrictlySortedBy caller_cmp callers
  pub exact : All (IsCallerOf calls temporary) callers
  pub covers : All (λ e. Any (λ c. c.at ≡ e.at) callers) calls

-- all of them together: how many calls, of how many bytes, and how many are temporary
abbrev pub all_of : (calls temporary : List Entry) → Count
all_of calls temporary = record { calls = length calls; bytes = total_size calls; temporary = length temporary }

-- calls and those of them that are temporary are counted: by their origins, and all of them together
pub record AreCounted (calls temporary : List Entry) (called : Called) : Type 0 where
  pub calls_are : (p : Origin) → called_at (λ c. c.calls) p called.callers ≡ blocks_at p calls
  pub bytes_are : (p : Origin) → called_at (λ c. c.bytes) p called.callers ≡ bytes_at p calls
  pub temporary_are : (p : Origin) → called_at (λ c. c.temporary) p called.callers ≡ blocks_at p temporary
  pub total : called.total ≡ all_of calls temporary
