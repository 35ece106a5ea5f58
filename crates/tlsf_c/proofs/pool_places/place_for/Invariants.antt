-- No place behind an entry so far has room.
use Rattle.std.proofs.Common.{◌≡◌}
use Rattle.std.specs.List.{AllWithin}
use Rattle.tlsf_c.specs.PoolPlaces.{IsFullBehind}
use Rattle.tlsf_c.proofs.pool_places.place_for.Given as goal

abbrev pub invariant-loop-pool : goal.invariant-loop-pool
invariant-loop-pool l = (l.pools ≡ l.fn.pools) × (l.align ≡ l.fn.align) × (l.address ≡ l.fn.address) × (l.bytes ≡ l.fn.bytes) × AllWithin (IsFullBehind l.align l.address l.bytes l.pools) l.pools 0 l.pool-index
