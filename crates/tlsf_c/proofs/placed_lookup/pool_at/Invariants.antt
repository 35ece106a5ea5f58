-- No entry so far has the address.
use Rattle.std.proofs.Common.{◌≡◌}
use Rattle.std.specs.List.{AllWithin}
use Rattle.tlsf_c.specs.PlacedPools.{HasAddress}
use Rattle.tlsf_c.proofs.placed_lookup.pool_at.Given as goal

abbrev pub invariant-loop-pool : goal.invariant-loop-pool
invariant-loop-pool l = (l.pools ≡ l.fn.pools) × (l.address ≡ l.fn.address) × AllWithin (λ pool. HasAddress pool l.address → ⊥) l.pools 0 l.pool-index
