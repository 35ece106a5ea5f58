use Rattle.std.proofs.Common.{◌≡◌, ◌-◌, ◌^◌, ◌<◌, ◌≤◌, ℕ, false}
use Rattle.std.specs.Prelude.{nat_le}
use Rattle.mtrace_replay.specs.Parts.{range_end}
use Rattle.mtrace_replay.proofs.parts.range.range_of.Given as goal

-- the range ends there, and no lower one ends at the size or behind it
abbrev pub invariant-loop-range : goal.invariant-loop-range
invariant-loop-range l = record {
  end_is : l.end ≡ range_end l.range;
  few : l.range ≤ 27;
  small : l.end ≤ 2 ^ 40;
  before : (range : ℕ) → range < l.range → nat_le l.size (range_end range) ≡ false;
}

abbrev pub decreases-loop-range : goal.decreases-loop-range
decreases-loop-range l = 27 - l.range
