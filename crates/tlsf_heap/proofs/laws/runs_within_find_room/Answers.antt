-- By induction over the run: each request within bounds has room.
use Rattle.tlsf_heap.proofs.Good.Within.{run_not_full}
use Rattle.tlsf_heap.proofs.laws.runs_within_find_room.Goals as goal

pub returns : goal.returns
returns g c = λ blocks bytes size. run_not_full blocks bytes size _
