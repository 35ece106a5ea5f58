-- The entries are the ranges of the content's pools.
use Rattle.std.proofs.Common.{arith, ◌≡◌, map, ap, ◌∙◌}
use Rattle.std.proofs.lemmas.Grind.{common_steps}
use Rattle.tlsf_heap.specs.Inner.Entries.{entry_range}
use Rattle.tlsf_heap.specs.Counted.{Counted, range_of}
use Rattle.tlsf_heap.proofs.Inner.Standing.{ranges_are}
use Rattle.tlsf_heap.proofs.heap.Heap.pools.Goals as goal

pub returns-clause-value : goal.returns-clause-value
returns-clause-value c =
    let all : c.loop-entry.ranges.items ≡ map entry_range c.as_slice-entry-items.result.now = grind (arith, common_steps) in
    all ∙ ap (map entry_range) (c.as_slice-entry-items.ensures.value ∙ c.entries-entries.ensures.value) ∙ ranges_are c.self.inside.store.cells c.self.invariant
    ∙ ap (λ (h : Counted). map range_of h.content.pools) c.self.view_is
