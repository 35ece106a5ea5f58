use Rattle.std.proofs.Common.{◌+◌, ◌<◌, ◌^◌, arith, ap, length}
use Rattle.tlsf_heap.specs.Content.{blocks_of}
use Rattle.tlsf_heap.proofs.Plain.Pools.{blocks_so_far}
use Rattle.tlsf_heap.proofs.plain_heap.content.Content.blocks_in_front.Goals as goal
use Rattle.tlsf_heap.proofs.plain_heap.content.Content.blocks_in_front.Goals.{After-len}

-- the blocks counted, with those of one pool more
few : (c : After-len) → c.loop-pool.number + c.len.result < 2 ^ 32
few c =
    omega (
      arith,
      c.requires,
      c.loop-pool.invariant.counted,
      blocks_so_far c.deref-pool-items.result.now c.loop-pool.pool-index c.pool-item.result c.loop-pool-test.true c.pool-item.is,
      ap (λ pool. length pool.blocks) c.pool.view_is,
      c.len.ensures,
      c.pool.inside.blocks.ok.0,
      ap (λ pools. length (blocks_of pools)) c.deref-pool-items.ensures.value,
      ap (λ content. length (blocks_of content.pools)) c.self.view_is,
    )

pub overflow_cast-number : goal.overflow_cast-number
overflow_cast-number c = omega (arith, few (goal.at.overflow_cast-number c).After-len)

pub overflow_add-number : goal.overflow_add-number
overflow_add-number c = omega (arith, few (goal.at.overflow_add-number c).After-len)
