-- The program's blocks are all that is live. So each call finds fewer live blocks than there is room for.
use Rattle.std.proofs.Common.{◌≡◌, [], arith}
use Rattle.tlsf_heap.specs.Implied.{live_blocks}
use Rattle.tlsf_heap.specs.Pools.{created}
use Rattle.tlsf_heap.proofs.Good.MallocIsGood.{created_is_good, add_pool_is_good}
use Rattle.tlsf_heap.proofs.Good.OneSize.{own_class, one_pool_for}
use Rattle.tlsf_c.proofs.HeldLaws.{none_held, no_refusals, all_of_size}
use Rattle.tlsf_c.proofs.HeldRuns.{IsSound}
use Rattle.tlsf_c.proofs.LiveChanges.{added_change}
use Rattle.tlsf_c.proofs.PlacedOneSize.{run_of_one_size}
use Rattle.tlsf_c.proofs.laws.blocks_asked_of_one_size_are_enough.Goals as goal

pub returns : goal.returns
returns c = λ blocks size records base pool pools calls tolds old new run placed apart entries added sized large many own keeps. (
    let good = add_pool_is_good base pool (created records) old (created_is_good records) added in
    let none : live_blocks old ≡ 0 = omega (arith, (added_change base pool (created records) old (created_is_good records) good added).blocks) in
    let sound : IsSound pools apart old = record { good = good; entries = entries } in
    let all = none_held pools apart old none in
    let within = all_of_size pools apart blocks size calls tolds old new [] run sound all own keeps in
    no_refusals pools apart calls tolds old new [] run sound all own
    (run_of_one_size blocks size base (own_class size sized) pools calls tolds old new run placed (one_pool_for blocks size records base pool old added large many) within))
