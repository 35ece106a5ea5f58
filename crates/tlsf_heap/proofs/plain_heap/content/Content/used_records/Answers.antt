-- Blocks are counted pool by pool.
use Rattle.std.proofs.Common.{arith, ap, length}
use Rattle.tlsf_heap.specs.Content.{blocks_of}
use Rattle.tlsf_heap.proofs.Plain.Pools.{blocks_so_far}
use Rattle.tlsf_heap.proofs.plain_heap.content.Content.used_records.Goals as goal

pub overflow_add-count : goal.overflow_add-count
overflow_add-count c =
    omega (
      arith,
      c.requires,
      c.loop-pool.invariant,
      blocks_so_far c.deref-pool-items.result.now c.loop-pool.pool-index c.pool-item.result c.loop-pool-test.true c.pool-item.is,
      ap (λ pool. length pool.blocks) c.pool.view_is,
      c.len-count.ensures,
      c.pool.inside.blocks.ok.0,
      ap (λ pools. length (blocks_of pools)) c.deref-pool-items.ensures.value,
      ap (λ content. length (blocks_of content.pools)) c.self.view_is,
    )
