-- The entries so far lie alike.
use Rattle.std.proofs.Common.{ℕ, ◌<◌, slice_index_or}
use Rattle.tlsf_c.specs.declared.placed_pool.PlacedPool.{PlacedPool}
use Rattle.tlsf_c.specs.PlacedPools.{IsAlike}
use Rattle.tlsf_c.proofs.placed_aligned.are_alike.Given as goal

abbrev pub invariant-loop-pool : goal.invariant-loop-pool
invariant-loop-pool l = (k : ℕ) (d : PlacedPool) → k < l.pool-index → IsAlike l.fn.align (slice_index_or l.pools k d)
