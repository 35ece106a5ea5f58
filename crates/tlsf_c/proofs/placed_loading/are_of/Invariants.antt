-- Each entry so far holds none, or one of the ranges.
use Rattle.std.proofs.Common.{◌≡◌}
use Rattle.std.specs.List.{AllWithin}
use Rattle.tlsf_c.specs.PlacedPools.{IsEntryOf}
use Rattle.tlsf_c.proofs.placed_loading.are_of.Given as goal

abbrev pub invariant-loop-pool : goal.invariant-loop-pool
invariant-loop-pool l = (l.pools ≡ l.fn.pools) × (l.ranges ≡ l.fn.ranges) × AllWithin (IsEntryOf l.fn.ranges) l.pools 0 l.pool-index
