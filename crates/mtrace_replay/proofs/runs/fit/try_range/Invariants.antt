use Rattle.std.proofs.Common.{◌≡◌, ◌≤◌, ◌+◌, ◌-◌, ◌*◌, ◌++◌, ℕ, List, map}
use Rattle.std.specs.Prelude.{max}
use Rattle.std.specs.List.{range_with_len}
use Rattle.mtrace_replay.specs.Fit.{Verdict, fitted}
use Rattle.mtrace_replay.specs.RunFit.{AreVerdicts, HasBegun}
use Rattle.mtrace_replay.proofs.runs.fit.try_range.Given as goal

-- the sizes so far were tried, and these are the verdicts
abbrev pub invariant-loop-number : goal.invariant-loop-number
invariant-loop-number g l =
    let reads = g.R.Source.shown in
    record {
      so_far : (verdicts : List Verdict) × AreVerdicts l.trial.front l.trial.records l.trial.many (reads l.initial.reader).whole (map (λ number. number * l.bytes) (range_with_len l.first (l.number - l.first))) verdicts
          × ((before : List Verdict) → l.initial.fitted ≡ fitted before → l.fitted ≡ fitted (before ++ verdicts));
      tried : l.fitted.tried ≤ l.initial.fitted.tried + (l.number - l.first);
      refused : l.fitted.refused ≤ l.fitted.tried;
      whole : (reads l.reader).whole ≡ (reads l.initial.reader).whole;
      begun : (times : ℕ) × (l.fitted.tried ≡ l.initial.fitted.tried + times) × HasBegun times (reads l.initial.reader).calls (reads l.reader).calls;
      records : l.trial.records ≤ l.tried.replay.content.records;
      within : l.number ≤ max l.first (l.last + 1);
    }
