-- Each entry so far holds a pool.
use Rattle.std.proofs.Common.{◌≡◌, ◌<◌}
use Rattle.std.specs.List.{AllWithin}
use Rattle.tlsf_c.proofs.placed_pools.vacant_entry.Given as goal

abbrev pub invariant-loop-entry : goal.invariant-loop-entry
invariant-loop-entry l = (l.pools ≡ l.fn.pools) × AllWithin (λ pool. 0 < pool.reach) l.pools 0 l.entry
