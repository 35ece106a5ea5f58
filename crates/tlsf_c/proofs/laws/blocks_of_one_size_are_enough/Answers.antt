-- By induction over the run: each free block fits.
use Rattle.tlsf_heap.proofs.Good.OneSize.{own_class, one_pool_for}
use Rattle.tlsf_c.proofs.PlacedOneSize.{run_of_one_size}
use Rattle.tlsf_c.proofs.laws.blocks_of_one_size_are_enough.Goals as goal

pub returns : goal.returns
returns c = λ blocks size records base pool pools calls tolds old new run placed added sized large many within.
    run_of_one_size blocks size base (own_class size sized) pools calls tolds old new run placed (one_pool_for blocks size records base pool old added large many) within
