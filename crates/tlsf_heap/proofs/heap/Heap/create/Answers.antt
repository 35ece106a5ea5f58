-- A new store stands for the empty content.
use Rattle.tlsf_heap.proofs.Inner.Empty.{empty_stands, empty_is_created}
use Rattle.tlsf_heap.proofs.heap.Heap.create.Goals as goal

pub invariant_of-result : goal.invariant_of-result
invariant_of-result c = rw c.in_ok-store.ensures.made (empty_stands c.args.records)

pub returns-clause-made : goal.returns-clause-made
returns-clause-made c = rw c.in_ok-store.ensures.made (empty_is_created c.args.records)
