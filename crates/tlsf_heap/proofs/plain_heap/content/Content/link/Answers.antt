-- One list has the block in front, the others stay.
use Rattle.std.proofs.Common.{ℕ, arith, ap, ◌∙◌, List}
use Rattle.tlsf_heap.specs.Content.{Content}
use Rattle.tlsf_heap.specs.Lists.{link}
use Rattle.tlsf_heap.proofs.Plain.Lists.{link_is}
use Rattle.tlsf_heap.proofs.plain_heap.content.Content.link.Goals as goal

pub returns : goal.returns
returns c =
    let lists = c.self.inside.lists.items in
    ap (λ (ls : List (List ℕ)). record { records = c.self.inside.records; pools = c.self.inside.pools.items; lists = ls })
    (link_is lists c.number-number.result c.args.place c.args.size c.index_mut.result.now c.insert.new.self
    (c.number-number.ensures.value ∙ c.class_of.ensures)
    (omega (arith, c.number-number.ensures.below, c.self.invariant))
    c.index_mut.ensures.value
    c.in_ok-insert.ensures.items)
    ∙ ap (λ (content : Content ℕ). record content { lists = link c.args.place c.args.size content.lists }) c.self.view_is
