use Rattle.std.proofs.Common.{◌≡◌, ℕ, ◌<◌, length, slice_index_or, Option}
use Rattle.std.specs.List.{All}
use Rattle.mtrace_replay.specs.declared.parts.cut.Cut.{Cut}
use Rattle.mtrace_replay.specs.Parts.{Part}
use Rattle.mtrace_replay.specs.Cuts.{IsSmall, ArePartsIn, IsBest}
use Rattle.mtrace_replay.proofs.parts.cut.first_row.Given as goal

-- the cuts from the ranges so far are there
abbrev pub invariant-loop-first : goal.invariant-loop-first
invariant-loop-first l = record {
  best : (part : ℕ → ℕ → Part) → ArePartsIn part l.spans → (first : ℕ) (d : Option Cut) → first < length l.row.items → IsBest part 0 first (slice_index_or l.row.items first d);
  small : All (IsSmall 0) l.row.items;
  len : length l.row.items ≡ l.first;
}
