-- By induction over the lines: a record is always left.
use Rattle.std.proofs.Common.{arith}
use Rattle.mtrace_replay.specs.Started.{started}
use Rattle.mtrace_replay.specs.Fit.{one_pool}
use Rattle.mtrace_replay.proofs.OnHeap.StartLemmas.{all_pools_stand, started_room}
use Rattle.mtrace_replay.proofs.History.TotalsLemmas.{started_free}
use Rattle.mtrace_replay.proofs.Enough.EnoughRecords.{never_full, started_good}
use Rattle.mtrace_replay.proofs.laws.records_are_enough.Goals as goal

pub returns : goal.returns
returns c = λ pool records most past good enough holds.
    let settings = one_pool pool records in
    never_full (started settings) (started_good settings) (started_free settings) most (all_pools_stand settings good) (omega (arith, enough, started_room settings good)) past holds
