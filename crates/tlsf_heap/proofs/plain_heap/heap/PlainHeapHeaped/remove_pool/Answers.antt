-- A good content stays good.
use Rattle.std.proofs.Common.{ℕ, ap, ◌∙◌, sym, subst, arith, Some, Ok}
use Rattle.tlsf_heap.specs.Content.{Content}
use Rattle.tlsf_heap.specs.PlainHeap.{IsPlain}
use Rattle.tlsf_heap.proofs.Plain.RemovedPool.{is_found, left_is, removed_is, left_is_plain}
use Rattle.tlsf_heap.proofs.plain_heap.heap.PlainHeapHeaped.remove_pool.Goals as goal

pub overflow_cast-base : goal.overflow_cast-base
overflow_cast-base c = let found = is_found c.self.invariant c.pool_at.ensures (c.in-Some.is ∙ ap (λ b. Some (c.in-Some.bytes, b)) c.if-not-is_unused.false) in omega (arith, found.below)

pub remove_pool-requires : goal.remove_pool-requires
remove_pool-requires c = (is_found c.self.invariant c.pool_at.ensures (c.in-Some.is ∙ ap (λ b. Some (c.in-Some.bytes, b)) c.if-not-is_unused.false)).size

pub invariant_of-self : goal.invariant_of-self
invariant_of-self c =
    let found = is_found c.self.invariant c.pool_at.ensures (c.in-Some.is ∙ ap (λ b. Some (c.in-Some.bytes, b)) c.if-not-is_unused.false) in
    let P : Content ℕ → Type 0 = λ x. IsPlain x in
    subst P (sym (left_is found c.in_ok-next.next c.remove_pool.new.self c.in_ok-next.ensures c.remove_pool.ensures)) (left_is_plain found c.self.invariant)

pub returns-clause-ok : goal.returns-clause-ok
returns-clause-ok c =
    let found = is_found c.self.invariant c.pool_at.ensures (c.in-Some.is ∙ ap (λ b. Some (c.in-Some.bytes, b)) c.if-not-is_unused.false) in
    rw (← c.self.view_is) (removed_is found ∙ ap (λ x. Ok x) (sym (left_is found c.in_ok-next.next c.remove_pool.new.self c.in_ok-next.ensures c.remove_pool.ensures)))
