-- No entry so far has the place.
use Rattle.std.proofs.Common.{◌≡◌}
use Rattle.std.specs.List.{AllWithin}
use Rattle.tlsf_c.specs.PlacedPools.{HasPlace}
use Rattle.tlsf_c.proofs.placed_lookup.later_pool_of.Given as goal

abbrev pub invariant-loop-pool : goal.invariant-loop-pool
invariant-loop-pool l = (l.pools ≡ l.fn.pools) × (l.place ≡ l.fn.place) × AllWithin (λ pool. HasPlace pool l.place → ⊥) l.pools 0 l.pool-index
