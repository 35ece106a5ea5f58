use Rattle.std.proofs.Common.{◌≡◌, drop}
use Rattle.tlsf_heap.specs.PlainHeap.{blocks_from}
use Rattle.tlsf_heap.proofs.plain_heap.content.Content.blocks_from.Given as goal

-- the blocks from the one are those of the pools to come
abbrev pub invariant-loop-pool : goal.invariant-loop-pool
invariant-loop-pool l = blocks_from l.left (drop l.pool-index l.pool-items) ≡ blocks_from l.fn.number l.pool-items
