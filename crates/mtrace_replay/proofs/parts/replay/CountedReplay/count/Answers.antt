-- Where a request has no class nothing is counted from then on.
use Rattle.std.proofs.Common.{◌∷◌, suc, None, Some, sym, ◌∙◌, subst}
use Rattle.std.specs.Prelude.{if◌then◌else◌}
use Rattle.mtrace_replay.specs.declared.parts.replay.CountedReplay.{CountedReplay}
use Rattle.mtrace_replay.specs.Spans.{AreCountedOf, AreFew}
use Rattle.mtrace_replay.proofs.BySize.CountedLemmas.{none_again}
use Rattle.mtrace_replay.proofs.parts.replay.CountedReplay.count.Goals.{in-None, in-Some+in_ok-has_class-in-Some}
use Rattle.mtrace_replay.proofs.parts.replay.CountedReplay.count.Goals as goal

pub returns-else-not-has_class-clause-counted : goal.returns-else-not-has_class-clause-counted
returns-else-not-has_class-clause-counted c past line is counted = elim c.match-self.branch [
  | in-None w ↦ subst (λ (replay : CountedReplay). AreCountedOf (line ∷ past) replay.spans) (sym w.self-is)
      (subst (AreCountedOf (line ∷ past)) (sym w.in-None.is) (none_again line past (subst (AreCountedOf past) w.in-None.is counted)))
  | in-Some+in_ok-has_class-in-Some w ↦ subst (λ (replay : CountedReplay). AreCountedOf (line ∷ past) replay.spans) (sym w.self-is)
      (subst (λ b. AreCountedOf (line ∷ past) (if b then Some w.count.new.spans else None)) (sym w.has_class-is ∙ c.if-not-has_class.false)
      (w.in_ok-has_class-in-Some.ensures.counted past line is (subst (AreCountedOf past) w.in-Some.is counted)))
]

pub returns-else-not-has_class-clause-few : goal.returns-else-not-has_class-clause-few
returns-else-not-has_class-clause-few c lines few = elim c.match-self.branch [
  | in-None w ↦ subst (λ (replay : CountedReplay). AreFew (suc lines) replay.spans) (sym w.self-is) (subst (AreFew (suc lines)) (sym w.in-None.is) tt)
  | in-Some+in_ok-has_class-in-Some w ↦ subst (λ (replay : CountedReplay). AreFew (suc lines) replay.spans) (sym w.self-is)
      (w.in_ok-has_class-in-Some.ensures.few lines (subst (AreFew lines) w.in-Some.is few))
]
