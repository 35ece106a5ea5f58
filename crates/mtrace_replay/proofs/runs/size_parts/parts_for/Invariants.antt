use Rattle.std.proofs.Common.{◌≡◌, map, drop, length}
use Rattle.mtrace_replay.specs.PartsText.{part_in}
use Rattle.mtrace_replay.specs.SizeParts.{parts_for}
use Rattle.mtrace_replay.proofs.Running.SizePartsLemmas.{and_rest}
use Rattle.mtrace_replay.proofs.runs.size_parts.parts_for.Given as goal

-- the parts so far, and then those for the rest, are those for all
abbrev pub invariant-loop-bounds : goal.invariant-loop-bounds
invariant-loop-bounds l = record {
  so_far : parts_for l.front l.all ≡ and_rest l.front (map part_in l.parts.items) (drop l.bounds-index l.all);
  count : length l.parts.items ≡ l.bounds-index;
}
