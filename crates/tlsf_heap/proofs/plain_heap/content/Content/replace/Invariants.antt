use Rattle.std.proofs.Common.{◌≡◌, take, map}
use Rattle.tlsf_heap.specs.Malloc.{replaced_in}
use Rattle.tlsf_heap.proofs.plain_heap.content.Content.replace.Given as goal

-- the block gave way in the pools so far
abbrev pub invariant-loop-pool : goal.invariant-loop-pool
invariant-loop-pool l = l.pools.items ≡ map (replaced_in l.place l.others.items) (take l.pool-index l.pool-items)
