-- A run that reads its log again.
use Rattle.std.proofs.Common.{rules, ◌≡◌, ◌≢◌, ◌≤◌, ℕ, List, true, refl, inr}
use Rattle.std.proofs.lemmas.Result.{IfErr-weaker}
use Rattle.std.specs.Prelude.{◌↔◌, Result, Ok, Err, IfErr, IsErrOf, IsTrue}
use Rattle.mtrace_log.specs.Shown.{Bytes, ReaderState, WriterState}
use Rattle.mtrace_replay.specs.declared.runs.report.Report.TheVariants.{Nothing}
use Rattle.mtrace_replay.specs.declared.heap.settings.Settings.{Settings}
use Rattle.mtrace_replay.specs.declared.runs.status.Status.{Status}
use Rattle.mtrace_replay.specs.declared.runs.status.RunFault.{RunFault}
use Rattle.mtrace_replay.specs.declared.runs.status.RunFault.TheVariants.{Read, Write, BadSettings}
use Rattle.mtrace_replay.specs.Course.{Course, course, shown_before, shown_after}
use Rattle.mtrace_replay.specs.Settings.{are_bad}
use Rattle.mtrace_replay.specs.Moment.{ReadLine}
use Rattle.mtrace_replay.specs.Started.{started}
use Rattle.mtrace_replay.specs.History.{moments}
use Rattle.mtrace_replay.specs.Run.{TellsReport, RunEndsBy}
use Rattle.mtrace_replay.specs.Timeline.{is_bad_stretches}
use Rattle.mtrace_replay.specs.Reporting.{PutsAndFlushes}
use Rattle.mtrace_replay.specs.Again.{Follows, RunsAgain}

-- nothing was done
pub again_undone : {R W : Type 0} (settings : Settings) (After : List ReadLine → Result Status RunFault → Course R ReaderState → Course W WriterState → Type 0)
    (reads : R → ReaderState) (writes : W → WriterState) (fault : RunFault) (reader : R) (writer : W) → RunEndsBy (moments (started settings)) (TellsReport Nothing settings) (Err fault) (course reads reader reader) (course writes writer writer)
    → IsErrOf {T = Status} (Err fault) BadSettings ↔ IsTrue (are_bad settings) → RunsAgain settings After (Err fault) (course reads reader reader) (course writes writer writer)
again_undone settings After reads writes fault reader writer ends bad = record {
  run = Err fault;
  reader_middle = reader;
  writer_middle = writer;
  runs = record { ends = ends; bad_settings = bad; whole = refl };
  goes_on = (refl, (refl, refl));
}

-- where only the writer fails the reader doesn't
never_read : (result : Result Status RunFault) → IfErr result (λ fault. fault ≡ Write) → IsErrOf result Read → ⊥
never_read (Ok status) only is = cc
never_read (Err fault) only is = cc

module _ {R W : Type 0} (Tells : Bytes → List ℕ → Type 0) (HasWorked Fails : ReaderState → ReaderState → Type 0)
    (reader : Course R ReaderState) (writer : Course W WriterState) where
  -- what follows where a text was told
  pub follows_told : (result : Result Status RunFault) (text : List ℕ) → IfErr result (λ fault. fault ≡ Write) → Tells (shown_after reader).left text
      → PutsAndFlushes result text (shown_before writer) (shown_after writer) → HasWorked (shown_before reader) (shown_after reader) → Follows Tells HasWorked Fails result reader writer
  follows_told result text only tells put worked = record {
    faults = IfErr-weaker result _ _ (λ fault is. inr is) only;
    told = λ _. (text, tells, put);
    reader_not_failed = λ _. worked;
    read_fault = λ is. absurd (never_read result only is);
    nothing_put = λ is. absurd (never_read result only is);
  }

-- this many stretches are not bad
pub not_bad : (stretches : ℕ) → stretches ≢ 0 → stretches ≤ 10000 → is_bad_stretches stretches ≡ true → ⊥
not_bad stretches some few bad = search rules
