-- A line adds at most two diagnostics, with that of the line before. The text of diagnostics, one after the other.
use Rattle.std.proofs.Common.{◌≡◌, refl, ℕ, ◌+◌, ◌≤◌, ◌||◌, arith, Bool, true, false, List, [], ◌∷◌, ◌++◌, length, length-append, Option, Some, None, Ok, Err}
use Rattle.std.proofs.lemmas.Grind.{flat_map-append}
use Rattle.std.specs.Prelude.{Result, if◌then◌else◌}
use Rattle.tlsf_heap.specs.declared.refusal.Refusal.{Refusal}
use Rattle.mtrace_replay.specs.declared.held.diagnostic.Diagnostic.{Diagnostic}
use Rattle.mtrace_replay.specs.Texts.{diagnostic_text, diagnostics_text}
use Rattle.mtrace_replay.specs.Following.{has_some}
use Rattle.mtrace_replay.specs.Started.{Bare}
use Rattle.mtrace_replay.specs.Moment.{ReadLine, Given, outcome, is_new, half, Act, idle, give, take, move, plan, answered, moved, done, acts}
use Rattle.mtrace_replay.specs.Entry.{Entry}
use Rattle.mtrace_replay.proofs.History.PlanLemmas.{is_planned}

half_few : (number : ℕ) (pending : Option ℕ) (new : Bool) → length (if new then [] else half number pending) + (if new then 2 else 1) ≤ 2
half_few number pending true = omega arith
half_few number None false = omega arith
half_few number (Some address) false = omega arith

answered_few : (entry : Entry) (content : Bare) (answer : Result (ℕ × Bare) Refusal) → length (answered entry content answer).diagnostics ≤ 1
answered_few entry content (Ok (place, new)) = omega arith
answered_few entry content (Err refusal) = omega arith

moved_few : (old from : ℕ) (entry : Entry) (content : Bare) (answer : Result (Option (ℕ × Unit {0}) × Bare) Refusal) → length (moved old from entry content answer).diagnostics ≤ 1
moved_few old from entry content (Ok (Some (place, owner), new)) = omega arith
moved_few old from entry content (Ok (None, new)) = omega arith
moved_few old from entry content (Err refusal) = omega arith

done_few : (act : Act) (content : Bare) → length (done act content).diagnostics ≤ (if acts act then 1 else 0)
done_few idle content = omega arith
done_few (give entry align) content = answered_few entry content _
done_few (take address place) content = omega arith
done_few (move old place entry) content = moved_few old place entry content _

pub diagnostics_few : (before number : ℕ) (line : ReadLine) (pending : Option ℕ) (held : ℕ → Option Given) (content : Bare)
    → length (if is_new line then [] else half before pending) + length (outcome number line pending held content).diagnostics ≤ 2
diagnostics_few before number line pending held content =
    let now = plan number line pending held in
    omega (
      arith,
      half_few before pending (is_new line),
      (is_planned number held line pending).few,
      done_few now.act content,
      length-append now.first (done now.act content).diagnostics,
    )

pub diagnostics_text-append : (first second : List Diagnostic) → diagnostics_text (first ++ second) ≡ diagnostics_text first ++ diagnostics_text second
diagnostics_text-append first second = flat_map-append diagnostic_text first second

pub some_diagnostic-append : (first second : List Diagnostic) → has_some (first ++ second) ≡ (has_some first || has_some second)
some_diagnostic-append [] second = refl
some_diagnostic-append (diagnostic ∷ first) second = refl
