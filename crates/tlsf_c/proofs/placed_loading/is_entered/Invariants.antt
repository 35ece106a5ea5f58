-- No entry so far holds the range.
use Rattle.std.proofs.Common.{◌≡◌, ◌<◌}
use Rattle.std.specs.List.{AllWithin}
use Rattle.tlsf_c.specs.PlacedPools.{placed_range}
use Rattle.tlsf_c.proofs.placed_loading.is_entered.Given as goal

abbrev pub invariant-loop-pool : goal.invariant-loop-pool
invariant-loop-pool l = (l.pools ≡ l.fn.pools) × (l.range ≡ l.fn.range) × AllWithin (λ pool. 0 < pool.reach → placed_range pool ≡ l.fn.range → ⊥) l.pools 0 l.pool-index
