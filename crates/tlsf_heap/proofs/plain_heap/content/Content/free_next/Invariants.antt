use Rattle.std.proofs.Common.{◌≡◌, drop}
use Rattle.tlsf_heap.specs.Free.{next_of, first_in_pools}
use Rattle.tlsf_heap.proofs.plain_heap.content.Content.free_next.Given as goal

-- the pools so far have none
abbrev pub invariant-loop-pool : goal.invariant-loop-pool
invariant-loop-pool l = first_in_pools (next_of l.place) (drop l.pool-index l.pool-items) ≡ first_in_pools (next_of l.place) l.pool-items
