-- The live blocks' bytes are those asked for, rounded up, and a unit a block. So the one pool has the bytes for each call.
use Rattle.std.proofs.Common.{◌≡◌, ℕ, ◌+◌, ◌*◌, [], arith}
use Rattle.tlsf_class.specs.Classes.{unit}
use Rattle.tlsf_heap.specs.Implied.{live_blocks}
use Rattle.tlsf_heap.specs.Pools.{created}
use Rattle.tlsf_heap.proofs.Good.MallocIsGood.{created_is_good}
use Rattle.tlsf_heap.proofs.Good.Within.{one_pool_enough}
use Rattle.tlsf_c.proofs.LiveChanges.{added_change}
use Rattle.tlsf_c.proofs.HeldLaws.{none_held, run_never_refused}
use Rattle.tlsf_c.proofs.SurePool.{more_than_refusing}
use Rattle.tlsf_c.proofs.laws.numbers_asked_are_enough.Goals as goal

pub returns : goal.returns
returns c = λ blocks bytes largest size least records base pool pools calls tolds old new run placed apart entries sized is enough many added own keeps. (
    let total : ℕ = bytes + blocks * unit in
    let large = one_pool_enough blocks total size records base pool old added (omega (arith, enough, more_than_refusing blocks total size least is)) many in
    let none : live_blocks old ≡ 0 = omega (arith, (added_change base pool (created records) old (created_is_good records) large.0 added).blocks) in
    run_never_refused c.smaller_asks_less.ensures blocks bytes largest size sized pools apart placed calls tolds old new [] run (record { good = large.0; large = large.1 }) (record { good = large.0; entries = entries }) (none_held pools apart old none) tt own keeps)
