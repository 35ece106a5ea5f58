-- A new heap has no pool.
use Rattle.std.proofs.Common.{ap}
use Rattle.tlsf_heap.specs.Bare.{bare}
use Rattle.mtrace_replay.proofs.heap.start.started_heap.Goals as goal

pub add_pools-requires-clause-empty : goal.add_pools-requires-clause-empty
add_pools-requires-clause-empty g c = ap bare c.in_ok-heap.ensures
