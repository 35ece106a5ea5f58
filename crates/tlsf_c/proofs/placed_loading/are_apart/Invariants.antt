-- Each entry so far is apart from all behind it.
use Rattle.std.proofs.Common.{◌≡◌, ℕ, ◌<◌, length, slice_index_or}
use Rattle.tlsf_c.specs.declared.placed_pool.PlacedPool.{PlacedPool}
use Rattle.tlsf_c.specs.PlacedPools.{AreApart}
use Rattle.tlsf_c.proofs.placed_loading.are_apart.Given as goal

abbrev pub invariant-loop-k : goal.invariant-loop-k
invariant-loop-k l = (l.pools ≡ l.fn.pools) × ((i j : ℕ) (d : PlacedPool) → i < l.k → i < j → j < length l.pools → AreApart (slice_index_or l.pools i d) (slice_index_or l.pools j d))
