-- A log that is read until a line is refused.
use Rattle.std.proofs.Common.{◌≡◌, ◌≢◌, ◌<◌, ◌≤◌, ℕ, List, [], ◌∷◌, ◌++◌, length, map, refl, sym, ap, ◌∙◌, subst, inl, inr, true, false, append_assoc, arith}
use Rattle.std.specs.List.{AllByRecursion}
use Rattle.std.specs.Prelude.{Result, Ok, Err, OnOk, OnErr, ◌+◌, count_by}
use Rattle.tlsf_heap.proofs.Counts.{count-append}
use Rattle.mtrace_log.specs.Progress.{Progress, most_asked}
use Rattle.mtrace_log.specs.Trace.{HasNotFailed}
use Rattle.mtrace_log.specs.declared.call.Call.{Call}
use Rattle.mtrace_log.specs.declared.call.Call.TheVariants.{Gave, Failed, Began, Ended as ToldEnd}
use Rattle.mtrace_replay.specs.declared.heap.settings.Settings.{Settings}
use Rattle.mtrace_replay.specs.declared.runs.fronted.Fronted.{Fronted}
use Rattle.mtrace_replay.specs.Started.{started}
use Rattle.mtrace_replay.specs.History.{moments}
use Rattle.mtrace_replay.specs.Totals.{is_refused}
use Rattle.mtrace_replay.specs.Fronted.{fronted, fronted_rules}
use Rattle.mtrace_replay.specs.Replay.{Replayed, heap_rules}
use Rattle.mtrace_log.specs.Shown.{ReaderState}
use Rattle.mtrace_replay.specs.Again.{HasReadFirst, StopsEarly, FailsAgain}
use Rattle.mtrace_replay.specs.RunFit.{refusals, IsTried, is_beginning, HasBegun}
use Rattle.mtrace_replay.specs.Replaying.{IsFollowed}
use Rattle.mtrace_replay.proofs.Running.AgainLemmas.{read_first, has_begun}
use Rattle.mtrace_replay.proofs.Running.FrontedLemmas.{fronted_reversed}

module _ (front many : ℕ) (settings : Settings) (progress : Progress) (tried : Fronted Replayed) (start now : ReaderState) (so_far : IsFollowed ((fronted_rules heap_rules).Stands (front, settings) tried) progress start now)
    (few : length progress.held ≤ most_asked) where
  was_read : HasReadFirst progress.count start.left now.left so_far.lines
  was_read = read_first ((fronted_rules heap_rules).Stands (front, settings) tried) progress start now so_far few

  refused_are : tried.replay.totals.refused ≡ refusals settings (fronted front so_far.lines)
  refused_are = so_far.stands.1.totals.refused ∙ ap (λ past. count_by is_refused (moments (started settings) past)) (fronted_reversed front so_far.lines)

  -- no line is refused
  pub tried_served : progress.count ≡ many → tried.replay.totals.refused ≡ 0 → IsTried front settings many true start.left now.left
  tried_served all none = (so_far.lines, subst (λ n. HasReadFirst n start.left now.left so_far.lines) all was_read, sym refused_are ∙ none)

  -- a line is refused
  pub tried_refused : progress.count ≤ many → 0 < tried.replay.totals.refused → IsTried front settings many false start.left now.left
  tried_refused within some = (so_far.lines, progress.count, within, was_read, subst (λ n. 0 < n) refused_are some)

gave_no_failure : (counts : List ℕ) → AllByRecursion (λ call. call ≢ Failed) (map Gave counts)
gave_no_failure [] = tt
gave_no_failure (count ∷ counts) = ((λ is. cc), gave_no_failure counts)

gave_no_beginning : (counts : List ℕ) → count_by is_beginning (map Gave counts) ≡ 0
gave_no_beginning [] = refl
gave_no_beginning (count ∷ counts) = gave_no_beginning counts

-- a reading that didn't fail doesn't begin again
pub none_begun : (old new : List Call) → HasNotFailed old new → HasBegun 0 old new
none_begun old new (inl gave) = record { more = map Gave gave.counts; none_failed = gave_no_failure gave.counts; begun = gave_no_beginning gave.counts; calls = gave.calls }
none_begun old new (inr all) = record {
  more = ToldEnd ∷ map Gave all.moved.counts;
  none_failed = ((λ is. cc), gave_no_failure all.moved.counts);
  begun = gave_no_beginning all.moved.counts;
  calls = all.then ∙ ap (λ calls. ToldEnd ∷ calls) all.moved.calls;
}

both_hold : (P : Call → Type 0) (first second : List Call) → AllByRecursion P first → AllByRecursion P second → AllByRecursion P (first ++ second)
both_hold P [] second one other = other
both_hold P (call ∷ first) second one other = (one.0, both_hold P first second one.1 other)

-- it began so often, and then so often again
pub begun-then : (times again : ℕ) (old middle new : List Call) → HasBegun times old middle → HasBegun again middle new → HasBegun (times + again) old new
begun-then times again old middle new first then = record {
  more = then.more ++ first.more;
  none_failed = both_hold (λ call. call ≢ Failed) then.more first.more then.none_failed first.none_failed;
  begun = omega (arith, count-append is_beginning then.more first.more, then.begun, first.begun);
  calls = then.calls ∙ ap (λ calls. then.more ++ calls) first.calls ∙ sym (append_assoc then.more first.more old);
}

pub nothing_begun : (calls : List Call) → HasBegun 0 calls calls
nothing_begun calls = record { more = []; none_failed = tt; begun = refl; calls = refl }

-- it began again, and then read
pub begun_once : (old middle new : List Call) → middle ≡ Began ∷ old → HasBegun 0 middle new → HasBegun 1 old new
begun_once old middle new began then =
    begun-then 1 0 old middle new (record { more = Began ∷ []; none_failed = ((λ is. cc), tt); begun = refl; calls = began }) then

-- it began again, and then stopped
pub fails_again : (many : ℕ) (reader_old reader_middle reader_new : ReaderState) → reader_middle.left ≡ reader_old.whole → reader_middle.whole ≡ reader_old.whole → reader_middle.calls ≡ Began ∷ reader_old.calls
    → StopsEarly many reader_middle reader_new → FailsAgain many reader_old reader_new
fails_again many reader_old reader_middle reader_new left_is whole_is calls_are failed =
    inr (subst (λ reader. StopsEarly many reader reader_new) (has_begun reader_old reader_middle left_is whole_is calls_are) failed)

-- what follows where a call succeeds, or fails
pub on_ok : {T E A B : Type 0} → (result : Result T E) → OnOk result A → (A → B) → OnOk result B
on_ok (Ok done) is follows = follows is
on_ok (Err fault) is follows = tt

pub on_err : {T E A B : Type 0} → (result : Result T E) → OnErr result A → (A → B) → OnErr result B
on_err (Ok done) is follows = tt
on_err (Err fault) is follows = follows is
