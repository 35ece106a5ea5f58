-- No entry so far overlaps the places.
use Rattle.std.proofs.Common.{◌≡◌}
use Rattle.std.specs.List.{AllWithin}
use Rattle.tlsf_c.specs.PoolPlaces.{IsBeside}
use Rattle.tlsf_c.proofs.pool_places.has_room.Given as goal

abbrev pub invariant-loop-pool : goal.invariant-loop-pool
invariant-loop-pool l = (l.pools ≡ l.fn.pools) × (l.place ≡ l.fn.place) × (l.bytes ≡ l.fn.bytes) × AllWithin (IsBeside l.place l.bytes) l.pools 0 l.pool-index
