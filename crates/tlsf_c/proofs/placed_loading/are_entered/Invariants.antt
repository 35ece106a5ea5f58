-- An entry holds each range so far.
use Rattle.std.proofs.Common.{◌≡◌}
use Rattle.std.specs.List.{AllWithin}
use Rattle.tlsf_c.specs.PlacedPools.{IsEntered}
use Rattle.tlsf_c.proofs.placed_loading.are_entered.Given as goal

abbrev pub invariant-loop-range : goal.invariant-loop-range
invariant-loop-range l = (l.ranges ≡ l.fn.ranges) × (l.pools ≡ l.fn.pools) × AllWithin (IsEntered l.fn.pools) l.ranges 0 l.range-index
