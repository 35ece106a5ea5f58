-- The keys on one side of the hole have moved, the others haven't.
use Rattle.std.proofs.Common.{◌≡◌, ◌+◌, ◌-◌, ◌<◌, length}
use Rattle.std.specs.List.{remove}
use Rattle.mtrace_replay.proofs.heap.keys.Keys.move_gap.Given as goal

abbrev pub invariant-loop-hole : goal.invariant-loop-hole
invariant-loop-hole l = record {
  others : remove l.self.keys l.hole ≡ remove l.initial.self.keys l.gap;
  len : length l.self.keys ≡ length l.initial.self.keys;
  rows : l.self.rows ≡ l.initial.self.rows;
  within : l.hole < length l.self.keys;
}

abbrev pub decreases-loop-hole : goal.decreases-loop-hole
decreases-loop-hole l = l.hole - l.at + (l.at - l.hole)
