use Rattle.std.proofs.Common.{◌≡◌, ◌+◌, take, drop, length, option_map}
use Rattle.tlsf_heap.specs.Content.{blocks_of}
use Rattle.tlsf_heap.specs.PlainHeap.{blocks_in_front}
use Rattle.tlsf_heap.proofs.plain_heap.content.Content.blocks_in_front.Given as goal

-- no pool so far begins there, and their blocks are counted
abbrev pub invariant-loop-pool : goal.invariant-loop-pool
invariant-loop-pool l = record {
  passed : option_map (λ number. l.number + number) (blocks_in_front l.base (drop l.pool-index l.pool-items)) ≡ blocks_in_front l.base l.pool-items;
  counted : l.number ≡ length (blocks_of (take l.pool-index l.pool-items));
}
