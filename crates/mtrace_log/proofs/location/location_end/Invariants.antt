use Rattle.std.proofs.Common.{ℕ, ◌<◌, ◌≤◌, ◌-◌, length}
use Rattle.std.specs.Prelude.{slice_index}
use Rattle.mtrace_log.specs.Location.{IsLocationByte}
use Rattle.mtrace_log.proofs.location.location_end.Given as goal

-- the bytes so far can stand in a location
abbrev pub invariant-loop-at : goal.invariant-loop-at
invariant-loop-at l = (l.at ≤ length l.bytes) × ((k : ℕ) → k < l.at → IsLocationByte (slice_index l.bytes k))

abbrev pub decreases-loop-at : goal.decreases-loop-at
decreases-loop-at l = length l.bytes - l.at
