-- Behind the control part and the table there is room for the sure pool.
use Rattle.std.proofs.Common.{arith}
use Rattle.tlsf_heap.specs.Sizing.{sure_records}
use Rattle.tlsf_c.specs.PoolPlaces.{bytes_in}
use Rattle.tlsf_c.proofs.SureMemoryLemmas.{sure_is_of, has_heap_room, has_sure_pool}
use Rattle.tlsf_c.proofs.laws.sure_memory_is_enough.Goals as goal

pub returns-clause-room : goal.returns-clause-room
returns-clause-room c = has_heap_room

pub returns-clause-refuses_none : goal.returns-clause-refuses_none
returns-clause-refuses_none c = λ memory total part blocks bytes largest base places pools calls tolds old new run sure at added placed apart entries own keeps. (
    let is = sure_is_of part blocks bytes largest sure.sure sure.sure_is in
    c.numbers_asked_are_enough.ensures blocks bytes largest is.size is.least (sure_records blocks) base (bytes_in places.pool places.bytes) pools calls tolds old new run placed apart entries is.sized is.pool
    (has_sure_pool memory total part blocks bytes largest places sure at) (omega arith) added own keeps)
