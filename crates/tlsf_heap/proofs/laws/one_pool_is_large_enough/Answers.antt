-- The one pool has the bytes, and the table the records.
use Rattle.tlsf_heap.proofs.Good.Within.{one_pool_enough}
use Rattle.tlsf_heap.proofs.laws.one_pool_is_large_enough.Goals as goal

pub returns : goal.returns
returns c = one_pool_enough
