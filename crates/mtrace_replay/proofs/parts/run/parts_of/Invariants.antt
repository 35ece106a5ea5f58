use Rattle.std.proofs.Common.{◌≡◌, ℕ, ◌++◌, map, drop, length}
use Rattle.mtrace_replay.specs.Parts.{Part, IsCut, parts_of}
use Rattle.mtrace_replay.specs.Cuts.{ArePartsIn}
use Rattle.mtrace_replay.specs.PartsText.{part_in}
use Rattle.mtrace_replay.proofs.parts.run.parts_of.Given as goal

-- the parts so far are those of the first ends
abbrev pub invariant-loop-last : goal.invariant-loop-last
invariant-loop-last l = record {
  cut : (part : ℕ → ℕ → Part) → IsCut part 0 l.ends → IsCut part l.first (drop l.last-index l.ends);
  so_far : (part : ℕ → ℕ → Part) → ArePartsIn part l.spans → IsCut part 0 l.ends → map part_in l.parts.items ++ parts_of part l.first (drop l.last-index l.ends) ≡ parts_of part 0 l.ends;
  count : length l.parts.items ≡ l.last-index;
}
