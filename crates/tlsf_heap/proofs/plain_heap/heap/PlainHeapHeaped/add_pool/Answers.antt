-- A good content stays good.
use Rattle.std.proofs.Common.{ℕ, arith, sym, ap, ◌∙◌, subst, length}
use Rattle.std.proofs.lemmas.Bool.{leb-false}
use Rattle.tlsf_heap.specs.Content.{Content}
use Rattle.tlsf_heap.specs.Pools.{with_pool}
use Rattle.tlsf_heap.specs.PlainHeap.{IsPlain}
use Rattle.tlsf_heap.proofs.Good.MallocIsGood.{with_pool_is_good}
use Rattle.tlsf_heap.proofs.Good.Slots.{with_pool_slots}
use Rattle.tlsf_heap.proofs.plain_heap.heap.PlainHeapHeaped.add_pool.Goals as goal

pub invariant_of-self : goal.invariant_of-self
invariant_of-self c =
    let content = c.self.inside.content in
    let P : Content ℕ → Type 0 = λ x. IsPlain x in
    subst P (sym (c.in_ok-add_pool.ensures ∙ ap (with_pool c.args.base c.args.bytes) c.in_ok-next.ensures)) (record {
      good = with_pool_is_good c.args.base c.args.bytes content c.self.invariant.good (sym c.can_be_pool.ensures ∙ c.if-not-can_be_pool.false) (sym c.is_apart.ensures ∙ c.if-not-is_apart.false)
          (omega (arith, c.if-len-ge-MOST_POOLS.false, c.len.ensures, c.content.inside.pools.ok.0, ap (λ x. length x.pools) c.content.view_is))
          (leb-false content.records _ (sym c.is_full.ensures ∙ c.if-is_full.false));
      slots = with_pool_slots c.args.base c.args.bytes content c.self.invariant.slots;
      records_few = c.self.invariant.records_few;
    })
