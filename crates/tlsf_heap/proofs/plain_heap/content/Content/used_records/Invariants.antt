use Rattle.std.proofs.Common.{◌≡◌, take, length}
use Rattle.tlsf_heap.specs.Content.{blocks_of}
use Rattle.tlsf_heap.proofs.plain_heap.content.Content.used_records.Given as goal

-- the blocks of the pools so far are counted
abbrev pub invariant-loop-pool : goal.invariant-loop-pool
invariant-loop-pool l = l.count ≡ length (blocks_of (take l.pool-index l.pool-items))
