-- One list is without the block, the others stay.
use Rattle.std.proofs.Common.{ℕ, rules, arith, ap, ◌∙◌, List}
use Rattle.std.proofs.lemmas.Fn.{filter_same}
use Rattle.tlsf_heap.specs.Content.{Content}
use Rattle.tlsf_heap.specs.Lists.{unlink}
use Rattle.tlsf_heap.proofs.Plain.Lists.{unlink_is}
use Rattle.tlsf_heap.proofs.plain_heap.content.Content.unlink.Goals as goal

pub returns : goal.returns
returns c =
    let lists = c.self.inside.lists.items in
    ap (λ (ls : List (List ℕ)). record { records = c.self.inside.records; pools = c.self.inside.pools.items; lists = ls })
    (unlink_is lists c.number-number.result c.args.place c.args.size c.index_mut.result.now c.retain.new.self
    (c.number-number.ensures.value ∙ c.class_of.ensures)
    (omega (arith, c.number-number.ensures.below, c.self.invariant))
    c.index_mut.ensures.value
    (filter_same _ _ _ (λ x b f k. search rules) _ _ c.retain.ensures.filtered))
    ∙ ap (λ (content : Content ℕ). record content { lists = unlink c.args.place c.args.size content.lists }) c.self.view_is
