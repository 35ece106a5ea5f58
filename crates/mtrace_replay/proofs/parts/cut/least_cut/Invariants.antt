use Rattle.std.proofs.Common.{◌≡◌, ℕ, suc, length}
use Rattle.std.specs.List.{All}
use Rattle.mtrace_replay.specs.Parts.{size_ranges, Part}
use Rattle.mtrace_replay.specs.Cuts.{IsSmall, ArePartsIn, AreBest}
use Rattle.mtrace_replay.proofs.parts.cut.least_cut.Given as goal

-- the best cuts are there, of as many parts as the counter says
abbrev pub invariant-loop-fewer : goal.invariant-loop-fewer
invariant-loop-fewer l = record {
  best : (part : ℕ → ℕ → Part) → ArePartsIn part l.spans → AreBest part l._fewer l.row.items;
  small : All (IsSmall l._fewer) l.row.items;
  len : length l.row.items ≡ suc size_ranges;
}
