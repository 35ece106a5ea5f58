-- A store begun anew stands for the empty content.
use Rattle.std.proofs.Common.{ap, arith}
use Rattle.tlsf_heap.specs.Counted.{Counted}
use Rattle.tlsf_heap.specs.Inner.Following.{content_of}
use Rattle.tlsf_heap.proofs.Inner.Empty.{empty_stands, empty_is_created}
use Rattle.tlsf_heap.proofs.heap.Heap.restart.Goals as goal

pub restart-requires-clause-few : goal.restart-requires-clause-few
unfolding content_of
restart-requires-clause-few c = omega (arith, c.requires.few, ap (λ (now : Counted). now.content.records) c.self.view_is)

pub invariant_of-self : goal.invariant_of-self
invariant_of-self c = rw c.restart.ensures.cells (empty_stands c.args.records)

pub returns-clause-made : goal.returns-clause-made
returns-clause-made c = rw c.restart.ensures.cells (empty_is_created c.args.records)
