use Rattle.std.proofs.Common.{◌≡◌, take}
use Rattle.tlsf_heap.specs.Malloc.{replaced}
use Rattle.tlsf_heap.proofs.plain_heap.pool.Pool.replaced.Given as goal

-- the one at the place gave way in the blocks so far
abbrev pub invariant-loop-block : goal.invariant-loop-block
invariant-loop-block l = l.blocks.items ≡ replaced l.place l.others (take l.block-index l.block-items)
