-- The first lines of a log, read and replayed.
use Rattle.std.proofs.Common.{◌≡◌, ◌<◌, ◌≤◌, [], ◌∷◌, ℕ, List, length, refl, sym, ap, ◌∙◌, subst, arith, ◌⊎◌, inl, inr}
use Rattle.std.specs.Prelude.{Result, Ok, Err, IsErrOf}
use Rattle.mtrace_log.specs.Progress.{Progress, Stage, Reading, Ended, Faulted, to_come, greatest_number, most_asked}
use Rattle.mtrace_log.specs.Shown.{ReaderState}
use Rattle.mtrace_log.specs.declared.call.Call.TheVariants.{Gave, Began}
use Rattle.mtrace_log.proofs.TraceLemmas.{moved_none}
use Rattle.mtrace_log.specs.Trace.{HasGivenAll}
use Rattle.mtrace_log.specs.HasRead.{HasRead, HasReadAll, HasReadSo}
use Rattle.mtrace_log.specs.Event.{Event}
use Rattle.mtrace_log.specs.declared.event.LineFault.{LineFault}
use Rattle.mtrace_replay.specs.declared.heap.settings.Settings.{Settings}
use Rattle.mtrace_replay.specs.declared.runs.reading.Stop.{Stop}
use Rattle.mtrace_replay.specs.Course.{Course, shown_before, shown_after}
use Rattle.mtrace_replay.specs.Replay.{Replayed, StandsFor, heap_rules}
use Rattle.mtrace_replay.specs.Following.{with_unused, FailedInPiece, IsPastLastNumber}
use Rattle.mtrace_replay.specs.Again.{HasReadFirst, HasReplayedFirst, StopsEarly, ReplaysFirst, begun_again}
use Rattle.mtrace_replay.specs.Replaying.{no_line, IsFollowed, HasGivenSo, FollowsUpTo}
use Rattle.mtrace_replay.proofs.Running.ReplayingLemmas.{used_to_end, followed_start}

-- what was read so far
pub read_first : (Stands : List (Result Event LineFault) → Type 0) (progress : Progress) (start now : ReaderState) → (so_far : IsFollowed Stands progress start now)
    → length progress.held ≤ most_asked → HasReadFirst progress.count start.left now.left so_far.lines
read_first Stands progress start now so_far few = record { count = sym so_far.count; unused = progress.held; few = few; read = by_stage progress.stage refl so_far.read }
  where
    by_stage : (stage : Stage) → progress.stage ≡ stage → HasReadSo stage start.left (to_come progress now.left) so_far.lines
        → HasRead start.left (to_come progress now.left) so_far.lines ⊎ HasReadAll start.left now.left so_far.lines
    by_stage Reading is read = inl read
    by_stage Ended is read = inr (used_to_end progress.held start.left now.left so_far.lines read)
    by_stage (Faulted fault) is read = absurd (so_far.no_fault fault is)

-- as many lines as were wanted
pub first_at_most : (many : ℕ) (settings : Settings) (progress : Progress) (replay : Replayed) (start now : ReaderState)
    → (so_far : IsFollowed (StandsFor replay settings) progress start now) → progress.count ≡ many
    → length progress.held ≤ most_asked → HasReplayedFirst many settings replay start.left now.left
first_at_most many settings progress replay start now so_far all few = record {
  lines = so_far.lines;
  read = subst (λ n. HasReadFirst n start.left now.left so_far.lines) all (read_first (StandsFor replay settings) progress start now so_far few);
  stands = so_far.stands;
}

-- the text had no more lines
pub ends_early : (many : ℕ) (Stands : List (Result Event LineFault) → Type 0) (progress : Progress) (start before after : ReaderState)
    → (so_far : IsFollowed Stands progress start before) → progress.count < many → HasReadAll start.left after.left so_far.lines → HasGivenAll start.calls after.calls
    → StopsEarly many start after
ends_early many Stands progress start before after so_far fewer all told =
    inr (record { lines = so_far.lines; fewer = omega (arith, so_far.count, fewer); read = all; told = told })

-- before the last number a fault is the reader's
pub failed_in_piece : (start reader : ReaderState) (lines : List (Result Event LineFault)) → length lines < greatest_number
    → FailedInPiece start reader lines ⊎ ((unused : List ℕ) × IsPastLastNumber start (with_unused unused reader) lines)
    → FailedInPiece start reader lines
failed_in_piece start reader lines few (inl failed) = failed
failed_in_piece start reader lines few (inr (unused, past)) = absurd (omega (arith, few, past.count))

-- a reader that began again
pub has_begun : (reader_old reader_middle : ReaderState) → reader_middle.left ≡ reader_old.whole → reader_middle.whole ≡ reader_old.whole → reader_middle.calls ≡ Began ∷ reader_old.calls
    → reader_middle ≡ begun_again reader_old
has_begun reader_old reader_middle left_is whole_is calls_are = λ i. record { left = left_is i; whole = whole_is i; calls = calls_are i }

-- what was so far followed and given of a text that was begun again
module _ {R : Type 0} (replay_old : Replayed) (reader_old : ReaderState) (reader : Course R ReaderState) (began : shown_before reader ≡ begun_again reader_old) where
  followed_again : (settings : Settings) → StandsFor replay_old settings [] → IsFollowed (StandsFor replay_old settings) no_line (begun_again reader_old) (shown_before reader)
  followed_again settings stands =
      subst (IsFollowed (StandsFor replay_old settings) no_line (begun_again reader_old)) (sym began) (followed_start (StandsFor replay_old settings) (begun_again reader_old) stands)

  given_again : HasGivenSo Reading (begun_again reader_old) (shown_before reader)
  given_again = let none = moved_none Gave (begun_again reader_old).calls in subst (HasGivenSo Reading (begun_again reader_old)) (sym began) (none, inl none)

  -- the lines up to one, from the first on, are the first lines
  pub first_done : {E : Type 0} (many : ℕ) (done : Unit {0}) (new : Progress) (replay_new : Replayed)
      → length new.held ≤ most_asked → FollowsUpTo heap_rules many (Ok done) no_line new replay_old replay_new reader
      → ReplaysFirst {E = E} many (Ok done) replay_old replay_new reader_old (shown_after reader)
  first_done many done new replay_new few up = record {
    done = λ settings stands.
        first_at_most many settings new replay_new (begun_again reader_old) (shown_after reader)
        (up.following settings (begun_again reader_old) (followed_again settings stands)).now up.reached few;
    not_failed = (up.gave (begun_again reader_old) given_again).1;
    read = tt;
    whole = up.whole ∙ ap (λ (state : ReaderState). state.whole) began;
    records = up.fixed;
  }

  -- the reader stopped before, since a heap lacks no memory
  pub first_failed : {E : Type 0} (many : ℕ) (fault : E) (stop : Stop) (new : Progress) (replay_new : Replayed)
      → many ≤ greatest_number → FollowsUpTo heap_rules many (Err stop) no_line new replay_old replay_new reader
      → ReplaysFirst many (Err fault) replay_old replay_new reader_old (shown_after reader)
  first_failed many fault stop new replay_new within up = record {
    done = tt;
    not_failed = tt;
    read = λ settings stands. inr (up.stops up.lacks settings (begun_again reader_old) many (followed_again settings stands) given_again (omega (arith)) within);
    whole = up.whole ∙ ap (λ (state : ReaderState). state.whole) began;
    records = up.fixed;
  }

-- an error is the same, whatever would have been answered else
pub other_result : {T U E : Type 0} (fault other : E) → IsErrOf {T = T} (Err fault) other → IsErrOf {T = U} (Err fault) other
other_result fault other is = (let same : fault ≡ other = cc in ap Err same)
