-- By induction over the run: each free block fits.
use Rattle.tlsf_heap.proofs.Good.OneSize.{run_of_size}
use Rattle.tlsf_heap.proofs.laws.blocks_of_one_size_find_room.Goals as goal

pub returns : goal.returns
returns g c = run_of_size _
