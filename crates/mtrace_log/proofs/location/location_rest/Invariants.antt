use Rattle.std.proofs.Common.{ℕ, ◌<◌}
use Rattle.std.specs.Prelude.{slice_index}
use Rattle.mtrace_log.specs.Location.{IsLocationByte}
use Rattle.mtrace_log.proofs.location.location_rest.Given as goal

-- the bytes so far can stand in a location
abbrev pub invariant-loop-at : goal.invariant-loop-at
invariant-loop-at l = (k : ℕ) → k < l.at → IsLocationByte (slice_index l.bytes k)
