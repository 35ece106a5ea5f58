use Rattle.std.proofs.Common.{◌≡◌, take, map}
use Rattle.tlsf_heap.specs.Counted.{range_of}
use Rattle.tlsf_heap.proofs.plain_heap.heap.PlainHeapHeaped.pools.Given as goal

-- the pools so far are told
abbrev pub invariant-loop-pool : goal.invariant-loop-pool
invariant-loop-pool l = l.ranges.items ≡ map range_of (take l.pool-index l.pool-items)
