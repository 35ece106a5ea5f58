-- By induction over the run.
use Rattle.tlsf_heap.proofs.Good.LastAsked.{blocks_are_as_asked}
use Rattle.tlsf_heap.proofs.laws.live_blocks_are_as_asked.Goals as goal

pub returns : goal.returns
returns g c = λ blocks bytes size. blocks_are_as_asked blocks bytes size _
