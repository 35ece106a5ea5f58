use Rattle.std.proofs.Common.{◌≡◌, replicate, []}
use Rattle.tlsf_heap.specs.PlainHeap.{lists_of}
use Rattle.tlsf_heap.proofs.plain_heap.content.Content.create.Given as goal

-- this many empty lists
abbrev pub invariant-loop-class : goal.invariant-loop-class
invariant-loop-class l = lists_of l.lists.items ≡ replicate l._class []
