use Rattle.std.proofs.Common.{◌≡◌, drop}
use Rattle.tlsf_heap.specs.Lists.{first_of_lists}
use Rattle.tlsf_heap.specs.PlainHeap.{lists_of}
use Rattle.tlsf_heap.proofs.plain_heap.content.first_of_lists.Given as goal

-- the lists so far were empty
abbrev pub invariant-loop-places : goal.invariant-loop-places
invariant-loop-places l = first_of_lists (lists_of (drop l.places-index l.lists)) ≡ first_of_lists (lists_of l.lists)
