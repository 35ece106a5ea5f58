use Rattle.std.proofs.Common.{◌≡◌, map, take}
use Rattle.tlsf_heap.specs.Inner.Entries.{entry_range}
use Rattle.tlsf_heap.proofs.heap.Heap.pools.Given as goal

-- the ranges so far
abbrev pub invariant-loop-entry : goal.invariant-loop-entry
invariant-loop-entry l = l.ranges.items ≡ map entry_range (take l.entry-index l.entry-items)
