-- A call that fills the buffer first: what it does is what is done behind that.
use Rattle.std.proofs.Common.{◌≡◌, ℕ, ◌+◌, List, Option, Some, None, Result, Ok, Err, sym, ap, ◌∙◌, subst}
use Rattle.mtrace_log.specs.Shown.{ReaderState}
use Rattle.mtrace_log.specs.Trace.{HasGiven}
use Rattle.mtrace_log.specs.Progress.{Reading, Progress, to_come, ReadsLine, FindsEnd, StopsReading, GivesFault, PassesLine, Advances}
use Rattle.mtrace_log.specs.declared.line.ReadFault.{ReadFault}
use Rattle.mtrace_log.proofs.CallLemmas.{calls_after}

module _ {R : Type 0} (shown : R → ReaderState) (old filled new : Progress) (reader_old reader_filled reader_new : R) (reading : old.stage ≡ Reading) (still : filled.stage ≡ Reading)
    (count : old.count ≡ filled.count) (same : to_come old (shown reader_old).left ≡ to_come filled (shown reader_filled).left) (gave : HasGiven (shown reader_old).calls (shown reader_filled).calls) where
  abbrev left : Option (List ℕ)
  left = to_come new (shown reader_new).left

  pub passes_filled : (result : Result (Option ℕ) ReadFault) → (shown reader_filled).whole ≡ (shown reader_old).whole → Advances PassesLine shown result filled new reader_filled reader_new
      → Advances PassesLine shown result old new reader_old reader_new
  passes_filled (Ok (Some number)) whole passes = record {
    line = λ answer says.
        let line = passes.line answer says in
        record {
          was_reading = reading;
          number = line.number ∙ ap (λ n. n + 1) (sym count);
          count = line.count;
          taken = subst (λ text. ReadsLine new.stage text left answer) (sym same) line.taken;
        };
    end = tt;
    fault = tt;
    calls = λ _. calls_after new.stage (shown reader_old).calls (shown reader_filled).calls (shown reader_new).calls gave (passes.calls still);
    nothing_held = tt;
    whole = passes.whole ∙ whole;
  }
  passes_filled (Ok None) whole passes =
      let found : FindsEnd Reading filled new reader_filled reader_new (to_come filled (shown reader_filled).left) left =
      subst (λ stage. FindsEnd stage filled new reader_filled reader_new (to_come filled (shown reader_filled).left) left) still passes.end.1 in
      record {
        line = tt;
        end = (passes.end.0, rw reading (found.0 ∙ sym count, same ∙ found.1, found.2));
        fault = tt;
        calls = λ _. calls_after new.stage (shown reader_old).calls (shown reader_filled).calls (shown reader_new).calls gave (passes.calls still);
        nothing_held = tt;
        whole = passes.whole ∙ whole;
      }
  passes_filled (Err fault) whole passes =
      let P : ℕ → Option (List ℕ) → Type 0 = λ n text. StopsReading fault n text left in
      let given : GivesFault Reading fault filled new reader_filled reader_new (to_come filled (shown reader_filled).left) left =
      subst (λ stage. GivesFault stage fault filled new reader_filled reader_new (to_come filled (shown reader_filled).left) left) still passes.fault in
      record {
        line = tt;
        end = tt;
        fault = rw reading (given.0, given.1 ∙ sym count, subst (λ n. P n (to_come old (shown reader_old).left)) (sym count) (subst (P filled.count) (sym same) given.2));
        calls = λ _. calls_after new.stage (shown reader_old).calls (shown reader_filled).calls (shown reader_new).calls gave (passes.calls still);
        nothing_held = passes.nothing_held;
        whole = passes.whole ∙ whole;
      }
