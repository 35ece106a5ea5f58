-- By induction over the pools.
use Rattle.mtrace_replay.proofs.OnHeap.StartLemmas.{all_pools_stand}
use Rattle.mtrace_replay.proofs.laws.all_pools_stand.Goals as goal

pub returns : goal.returns
returns c = λ settings good. all_pools_stand settings good
