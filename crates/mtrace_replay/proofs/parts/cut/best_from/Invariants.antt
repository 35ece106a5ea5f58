use Rattle.std.proofs.Common.{ℕ, suc}
use Rattle.std.specs.List.{All}
use Rattle.mtrace_replay.specs.Parts.{Part}
use Rattle.mtrace_replay.specs.Cuts.{IsSmall, ArePartsIn, AreBest}
use Rattle.mtrace_replay.proofs.BySize.CutLemmas.{IsBestSoFar}
use Rattle.mtrace_replay.proofs.parts.cut.best_from.Given as goal

-- the best cut so far
abbrev pub invariant-loop-span : goal.invariant-loop-span
invariant-loop-span l = record {
  best : (part : ℕ → ℕ → Part) (most : ℕ) → ArePartsIn part l.spans → AreBest part most l.rests → IsBestSoFar part most l.rests l.spans l.first l.span-index l.best;
  small : (most : ℕ) → All (IsSmall most) l.rests → IsSmall (suc most) l.best;
}
