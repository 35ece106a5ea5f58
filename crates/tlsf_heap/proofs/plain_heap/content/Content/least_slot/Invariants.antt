use Rattle.std.proofs.Common.{ℕ, ◌≤◌, ◌<◌}
use Rattle.tlsf_heap.specs.Content.{blocks_of}
use Rattle.tlsf_heap.specs.GoodSlots.{slot_times}
use Rattle.tlsf_heap.proofs.plain_heap.content.Content.least_slot.Given as goal

-- the slots so far are those of live blocks
abbrev pub invariant-loop-slot : goal.invariant-loop-slot
invariant-loop-slot l = (k : ℕ) → k < l.slot → 1 ≤ slot_times k (blocks_of l.self.pools)
