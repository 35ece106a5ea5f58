-- The empty content is good.
use Rattle.std.proofs.Common.{ℕ, sym, subst, arith}
use Rattle.tlsf_heap.specs.Content.{Content}
use Rattle.tlsf_heap.specs.PlainHeap.{IsPlain}
use Rattle.tlsf_heap.proofs.Good.MallocIsGood.{created_is_good}
use Rattle.tlsf_heap.proofs.Good.Slots.{created_slots}
use Rattle.tlsf_heap.proofs.plain_heap.heap.PlainHeapHeaped.create.Goals as goal

pub invariant_of-result : goal.invariant_of-result
invariant_of-result c =
    let P : Content ℕ → Type 0 = λ x. IsPlain x in
    subst P (sym c.in-Ok.ensures) (record { good = created_is_good c.args.records; slots = created_slots c.args.records; records_few = omega arith })
