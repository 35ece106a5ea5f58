use Rattle.std.proofs.Common.{◌≡◌, ℕ, suc, ◌<◌, length, slice_index_or, Option}
use Rattle.std.specs.List.{All}
use Rattle.mtrace_replay.specs.declared.parts.cut.Cut.{Cut}
use Rattle.mtrace_replay.specs.Parts.{Part}
use Rattle.mtrace_replay.specs.Cuts.{IsSmall, ArePartsIn, IsBest, AreBest}
use Rattle.mtrace_replay.proofs.parts.cut.next_row.Given as goal

-- the cuts from the ranges so far are there
abbrev pub invariant-loop-first : goal.invariant-loop-first
invariant-loop-first l = record {
  best : (part : ℕ → ℕ → Part) (most : ℕ) → ArePartsIn part l.spans → AreBest part most l.rests → (first : ℕ) (d : Option Cut) → first < length l.row.items
      → IsBest part (suc most) first (slice_index_or l.row.items first d);
  small : (most : ℕ) → All (IsSmall most) l.rests → All (IsSmall (suc most)) l.row.items;
  len : length l.row.items ≡ l.first;
}
