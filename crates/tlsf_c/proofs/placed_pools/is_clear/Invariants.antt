-- No entry so far overlaps the bytes.
use Rattle.std.proofs.Common.{◌≡◌}
use Rattle.std.specs.List.{AllWithin}
use Rattle.tlsf_c.specs.PlacedPools.{IsClearOf}
use Rattle.tlsf_c.proofs.placed_pools.is_clear.Given as goal

abbrev pub invariant-loop-pool : goal.invariant-loop-pool
invariant-loop-pool l = (l.pools ≡ l.fn.pools) × (l.first ≡ l.fn.first) × (l.reach ≡ l.fn.reach) × AllWithin (IsClearOf l.first l.reach) l.pools 0 l.pool-index
