-- By induction over the blocks: each leaves a gap in front of it that is too small.
use Rattle.tlsf_heap.proofs.Good.Least.{larger_refused, spaced_refused}
use Rattle.tlsf_heap.proofs.laws.sure_pool_is_least.Goals as goal

pub returns-clause-larger : goal.returns-clause-larger
returns-clause-larger g c = λ blocks bytes size records base pool old is some whole least most sure many added. larger_refused blocks bytes size records base pool old is some whole least most sure many added _

pub returns-clause-smaller : goal.returns-clause-smaller
returns-clause-smaller g c = λ blocks bytes size records base pool old is some at one whole least most sure many added. spaced_refused blocks bytes size records base pool old is some at one whole least most sure many added _
