-- Each entry so far is placed.
use Rattle.std.proofs.Common.{◌≡◌}
use Rattle.std.specs.List.{AllWithin}
use Rattle.tlsf_c.specs.PlacedPools.{IsPlaced}
use Rattle.tlsf_c.proofs.placed_loading.are_placed.Given as goal

abbrev pub invariant-loop-pool : goal.invariant-loop-pool
invariant-loop-pool l = (l.pools ≡ l.fn.pools) × AllWithin IsPlaced l.pools 0 l.pool-index
