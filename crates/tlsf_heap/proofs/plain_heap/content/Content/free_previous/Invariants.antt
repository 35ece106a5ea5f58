use Rattle.std.proofs.Common.{◌≡◌, drop}
use Rattle.tlsf_heap.specs.Free.{previous_of, first_in_pools}
use Rattle.tlsf_heap.proofs.plain_heap.content.Content.free_previous.Given as goal

-- the pools so far have none
abbrev pub invariant-loop-pool : goal.invariant-loop-pool
invariant-loop-pool l = first_in_pools (previous_of l.place) (drop l.pool-index l.pool-items) ≡ first_in_pools (previous_of l.place) l.pool-items
