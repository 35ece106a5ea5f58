-- The outcomes of the calls of a reader in many calls of `next`.
use Rattle.std.proofs.Common.{◌≡◌, ℕ, List, Option, Result, refl, subst, sym, inl, inr}
use Rattle.mtrace_log.specs.Shown.{ReaderState}
use Rattle.mtrace_log.specs.Trace.{HasGivenAll, HasNotFailed}
use Rattle.mtrace_log.specs.Progress.{Progress, Stage, Reading, Ended, Faulted, ReadsLine, FindsEnd, GivesFault, CallsFor}
use Rattle.mtrace_log.specs.declared.call.Call.{Call}
use Rattle.mtrace_log.specs.declared.call.Call.TheVariants.{Gave, Ended as ToldEnd, Failed}
use Rattle.mtrace_log.specs.Event.{Event}
use Rattle.mtrace_log.specs.declared.event.LineFault.{LineFault}
use Rattle.mtrace_log.specs.declared.line.ReadFault.{ReadFault}
use Rattle.mtrace_log.specs.declared.line.ReadFault.TheVariants.{ReaderFailed, TooManyLines}
use Rattle.mtrace_log.proofs.TraceLemmas.{moved_append, moved_then_append}

-- calls while lines were read, and then more
pub calls_after : (stage : Stage) (start before after : List Call) → CallsFor Reading start before → CallsFor stage before after → CallsFor stage start after
calls_after Reading start before after first second = moved_append Gave start before after first second
calls_after Ended start before after first second = moved_then_append Gave ToldEnd start before after first second
calls_after (Faulted ReaderFailed) start before after first second = moved_then_append Gave Failed start before after first second
calls_after (Faulted TooManyLines) start before after first second = moved_append Gave start before after first second

-- the calls of one call of `next`, behind those before it
pub calls_more : (old new : Stage) (start before after : List Call) → old ≡ Reading → CallsFor old start before
    → (old ≡ Reading → CallsFor new before after) → CallsFor new start after
calls_more old new start before after reading first second =
    let P : Stage → Type 0 = λ stage. CallsFor stage start before in
    calls_after new start before after (subst P reading first) (second reading)

-- a line that was taken came of a reader that has not failed
pub calls_of_line : (stage : Stage) (start after : List Call) (left_old left_new : Option (List ℕ)) (answer : Result Event LineFault) → ReadsLine stage left_old left_new answer
    → CallsFor stage start after → HasNotFailed start after
calls_of_line Reading start after left_old left_new answer taken calls = inl calls
calls_of_line Ended start after left_old left_new answer taken calls = inr calls
calls_of_line (Faulted fault) start after left_old left_new answer taken calls = absurd taken

-- the end
pub calls_to_end : {R : Type 0} (shown : R → ReaderState) (start : List Call) (old new : Progress) (reader_old reader_new : R) (left_old left_new : Option (List ℕ))
    → CallsFor old.stage start (shown reader_old).calls → (old.stage ≡ Reading → CallsFor new.stage (shown reader_old).calls (shown reader_new).calls)
    → new.stage ≡ Ended → FindsEnd old.stage old new reader_old reader_new left_old left_new → HasGivenAll start (shown reader_new).calls
calls_to_end {R} shown start old new reader_old reader_new left_old left_new first second ended found = by_stage old.stage first second found
  where
    by_stage : (stage : Stage) → CallsFor stage start (shown reader_old).calls → (stage ≡ Reading → CallsFor new.stage (shown reader_old).calls (shown reader_new).calls)
        → FindsEnd stage old new reader_old reader_new left_old left_new → HasGivenAll start (shown reader_new).calls
    by_stage Reading first second found =
        let P : Stage → Type 0 = λ stage. CallsFor stage start (shown reader_new).calls in
        subst P ended (calls_more Reading new.stage start (shown reader_old).calls (shown reader_new).calls refl first second)
    by_stage Ended first second found =
        let P : R → Type 0 = λ reader. HasGivenAll start (shown reader).calls in
        subst P (sym found.1) first
    by_stage (Faulted fault) first second found = absurd found

-- a fault
pub calls_to_fault : {R : Type 0} (shown : R → ReaderState) (start : List Call) (old new : Progress) (reader_old reader_new : R) (left_old left_new : Option (List ℕ)) (fault : ReadFault)
    → CallsFor old.stage start (shown reader_old).calls → (old.stage ≡ Reading → CallsFor new.stage (shown reader_old).calls (shown reader_new).calls)
    → GivesFault old.stage fault old new reader_old reader_new left_old left_new → CallsFor (Faulted fault) start (shown reader_new).calls
calls_to_fault {R} shown start old new reader_old reader_new left_old left_new fault first second given = by_stage old.stage first second given
  where
    by_stage : (stage : Stage) → CallsFor stage start (shown reader_old).calls → (stage ≡ Reading → CallsFor new.stage (shown reader_old).calls (shown reader_new).calls)
        → GivesFault stage fault old new reader_old reader_new left_old left_new → CallsFor (Faulted fault) start (shown reader_new).calls
    by_stage Reading first second given =
        let P : Stage → Type 0 = λ stage. CallsFor stage start (shown reader_new).calls in
        subst P given.0 (calls_more Reading new.stage start (shown reader_old).calls (shown reader_new).calls refl first second)
    by_stage Ended first second given = absurd given
    by_stage (Faulted was) first second given =
        let P : R → Type 0 = λ reader. CallsFor (Faulted was) start (shown reader).calls in
        let Q : ReadFault → Type 0 = λ f. CallsFor (Faulted f) start (shown reader_new).calls in
        subst Q (sym given.0) (subst P (sym given.2) first)
