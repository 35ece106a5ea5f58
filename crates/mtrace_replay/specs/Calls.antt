-- What is counted of calls, by their locations.
use Rattle.std.specs.Prelude.{◌≡◌, ℕ, ◌+◌, ◌==◌, Bool, false, List, Option, None, Some, MatchBool}
use Rattle.std.specs.List.{sum_by}
use Rattle.mtrace_replay.specs.Entry.{Entry}
use Rattle.mtrace_replay.specs.Sites.{Origin, weigh}
use Rattle.mtrace_replay.specs.declared.held.count.Count.{Count}

-- what one origin asked for: how many calls, of how many bytes, and how many of them were temporary
pub record Caller : Type 0 where
  pub calls : ℕ
  pub bytes : ℕ
  pub temporary : ℕ
  pub at : Origin

abbrev pub no_calls : Count
no_calls = record { calls = 0; bytes = 0; temporary = 0 }

-- a count with one call more, of this size, and with one temporary call more
abbrev pub count_more : Count → ℕ → Count
count_more count size = record { calls = count.calls + 1; bytes = count.bytes + size; temporary = count.temporary }

abbrev pub count_temporary : Count → Count
count_temporary count = record { calls = count.calls; bytes = count.bytes; temporary = count.temporary + 1 }

-- whether nothing was asked, and the caller of an origin by its count
abbrev pub has_no_call : Count → Bool
has_no_call count = count.calls == 0

abbrev pub caller_of : Origin → Count → Caller
caller_of at count = record { calls = count.calls; bytes = count.bytes; temporary = count.temporary; at = at }

-- the callers of a log so far, in any order, and all calls in sum
pub record Called : Type 0 where
  pub callers : List Caller
  pub total : Count

-- a measure of callers at one origin, in sum
abbrev pub called_at : (Caller → ℕ) → Origin → List Caller → ℕ
called_at measure p callers = sum_by (λ c. weigh p c.at (measure c)) callers

-- one origin has these calls, bytes and temporary calls more, and no other has
pub record CountsMore (at : Origin) (calls bytes temporary : ℕ) (old new : Called) : Type 0 where
  pub calls_are : (p : Origin) → called_at (λ c. c.calls) p new.callers ≡ weigh p at calls + called_at (λ c. c.calls) p old.callers
  pub bytes_are : (p : Origin) → called_at (λ c. c.bytes) p new.callers ≡ weigh p at bytes + called_at (λ c. c.bytes) p old.callers
  pub temporary_are : (p : Origin) → called_at (λ c. c.temporary) p new.callers ≡ weigh p at temporary + called_at (λ c. c.temporary) p old.callers
  pub total : new.total ≡ record { calls = old.total.calls + calls; bytes = old.total.bytes + bytes; temporary = old.total.temporary + temporary }

-- whether a line is told, and is the one behind this
abbrev pub is_next : ℕ → Option ℕ → Bool
is_next line None = false
is_next line (Some next) = line + 1 == next

-- What was held is released. Where the line of this number does it, and the line before it made the call, that is temporary.
abbrev pub CountsReleased : Option ℕ → Option Entry → (old new : Called) → Type 0
CountsReleased line None old new = new ≡ old
CountsReleased line (Some entry) old new = MatchBool (is_next entry.line line) (CountsMore entry.at 0 0 1 old new) (new ≡ old)
