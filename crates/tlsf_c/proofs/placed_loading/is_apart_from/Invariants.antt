-- The pool is apart from each entry so far.
use Rattle.std.proofs.Common.{◌≡◌}
use Rattle.std.specs.List.{AllWithin}
use Rattle.tlsf_c.specs.PlacedPools.{AreApart}
use Rattle.tlsf_c.proofs.placed_loading.is_apart_from.Given as goal

abbrev pub invariant-loop-k : goal.invariant-loop-k
invariant-loop-k l = (l.pools ≡ l.fn.pools) × (l.pool ≡ l.fn.pool) × AllWithin (AreApart l.fn.pool) l.pools l.fn.start l.k
