use Rattle.std.proofs.Common.{◌≡◌, ℕ, ◌<◌, ◌&&◌, Some, None, inl, inr, refl, arith, reverse}
use Rattle.std.specs.Prelude.{nat_le}
use Rattle.std.proofs.lemmas.Bool.{cases_Bool}
use Rattle.tlsf_class.specs.Classes.{greatest_size}
use Rattle.tlsf_store.specs.Records.{most_records}
use Rattle.tlsf_heap.specs.Sizing.{most_refusing, sure_records, sure_bytes, sure_pool}
use Rattle.mtrace_replay.specs.Started.{started}
use Rattle.mtrace_replay.specs.Fit.{one_pool}
use Rattle.mtrace_replay.proofs.OnHeap.StartLemmas.{all_pools_stand, started_room, started_bytes}
use Rattle.mtrace_replay.proofs.History.TotalsLemmas.{started_free}
use Rattle.mtrace_replay.proofs.Enough.EnoughRecords.{started_good}
use Rattle.mtrace_replay.proofs.Enough.FittedPool.{never_refused_here}
use Rattle.mtrace_replay.proofs.laws.sure_pool_serves_the_log.Goals as goal

-- the sure pool has more bytes than may refuse
more_than_refusing : (most bytes size pool : ℕ) → sure_pool most bytes (Some size) ≡ Some pool → most_refusing 1 most bytes size < pool
more_than_refusing most bytes size pool is = elim (cases_Bool (nat_le (sure_records most) most_records && nat_le (sure_bytes most bytes size) greatest_size)) [
  | inl small ↦ (let told : sure_pool most bytes (Some size) ≡ Some (sure_bytes most bytes size) = rw small refl in let same : sure_bytes most bytes size ≡ pool = cc in omega (arith, same))
  | inr large ↦ (let none : sure_pool most bytes (Some size) ≡ None = rw large refl in absurd (cc))
]

pub returns : goal.returns
returns c = λ settings pool records most bytes size lines none holds bytes_held of is good enough.
    let here = one_pool pool records in
    never_refused_here most bytes size (started settings) (started_good settings) (started_free settings) (started here) (started_good here) (started_free here) (all_pools_stand here good)
    (omega (arith, more_than_refusing most bytes size pool is, started_bytes here good)) (omega (arith, enough, started_room here good)) (reverse lines) none holds bytes_held of
