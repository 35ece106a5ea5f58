use Rattle.std.proofs.Common.{◌≡◌, ◌≤◌, ◌+◌, ◌-◌, ◌*◌, ◌%◌, ◌^◌, ◌++◌, ℕ, List}
use Rattle.std.specs.Prelude.{None}
use Rattle.tlsf_class.specs.Classes.{unit, greatest_size}
use Rattle.mtrace_replay.specs.Fit.{Verdict, doubled, range, ranges, least_size, fitted}
use Rattle.mtrace_replay.specs.RunFit.{AreVerdicts, HasBegun}
use Rattle.mtrace_replay.proofs.runs.fit.try_sizes.Given as goal

-- the ranges so far were tried; none before the last has a size that serves
abbrev pub invariant-loop-trial : goal.invariant-loop-trial
invariant-loop-trial g l =
    let reads = g.R.Source.shown in
    let are : List ℕ → List Verdict → Type 0 = λ tried verdicts. AreVerdicts l.trial.front l.trial.records l.trial.many (reads l.initial.reader).whole tried verdicts in
    record {
      so_far : (times : ℕ) × (before : List Verdict) × (last : List Verdict) × (l.step ≡ doubled l.fn.step times)
          × are (ranges l.fn.step l.first times) before × are (range l.fn.step l.first times) last × (least_size before ≡ None) × (l.fitted ≡ fitted (before ++ last));
      tried : l.fitted.tried ≤ l.step * 2 ^ 30;
      refused : l.fitted.refused ≤ l.fitted.tried;
      some : unit ≤ l.step;
      in_units : l.step % unit ≡ 0;
      whole : (reads l.reader).whole ≡ (reads l.initial.reader).whole;
      begun : (times : ℕ) × (l.fitted.tried ≡ l.initial.fitted.tried + times) × HasBegun times (reads l.initial.reader).calls (reads l.reader).calls;
      records : l.trial.records ≤ l.tried.replay.content.records;
    }

-- the step becomes twice as large, and no larger than the greatest size
abbrev pub decreases-loop-trial : goal.decreases-loop-trial
decreases-loop-trial g l = greatest_size - l.step
