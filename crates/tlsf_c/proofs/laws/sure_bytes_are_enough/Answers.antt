-- The one pool has the bytes for each call that keeps to the bounds.
use Rattle.std.proofs.Common.{ℕ, ◌+◌, ◌*◌, arith}
use Rattle.tlsf_class.specs.Classes.{unit}
use Rattle.tlsf_heap.proofs.Good.Within.{one_pool_enough}
use Rattle.tlsf_c.proofs.PlacedRunLemmas.{run_serves}
use Rattle.tlsf_c.proofs.SurePool.{more_than_refusing}
use Rattle.tlsf_c.proofs.laws.sure_bytes_are_enough.Goals as goal

pub returns : goal.returns
returns c = λ blocks bytes largest size least records base pool pools calls tolds old new run placed sized is enough many added within. (
    let total : ℕ = bytes + blocks * unit in
    let large = one_pool_enough blocks total size records base pool old added (omega (arith, enough, more_than_refusing blocks total size least is)) many in
    run_serves c.smaller_asks_less.ensures blocks bytes largest size sized pools calls tolds old new run placed (record { good = large.0; large = large.1 }) within)
