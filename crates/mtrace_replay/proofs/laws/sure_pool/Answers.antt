-- By induction over the lines: a block always fits, and a record is left.
use Rattle.std.proofs.Common.{◌+◌, ◌*◌, ◌≤◌, arith}
use Rattle.mtrace_replay.specs.Started.{started}
use Rattle.mtrace_replay.specs.Fit.{one_pool}
use Rattle.mtrace_replay.proofs.OnHeap.StartLemmas.{all_pools_stand, started_room, started_bytes}
use Rattle.mtrace_replay.proofs.History.TotalsLemmas.{started_free}
use Rattle.mtrace_replay.proofs.Enough.EnoughRecords.{never_full, started_good}
use Rattle.mtrace_replay.proofs.Enough.SurePool.{always_fits}
use Rattle.mtrace_replay.proofs.laws.sure_pool.Goals as goal

pub returns : goal.returns
returns c = λ pool records most bytes size past good enough large holds bytes_held of.
    let settings = one_pool pool records in
    let one = all_pools_stand settings good in
    let many : 2 * most + 3 ≤ (started settings).records = omega (arith, enough, started_room settings good) in (
      always_fits most bytes size (started settings) (started_good settings) (started_free settings) one (omega (arith, large, started_bytes settings good)) many past holds bytes_held of,
      never_full (started settings) (started_good settings) (started_free settings) most one many past holds,
    )
