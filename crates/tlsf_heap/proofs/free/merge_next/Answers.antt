-- No block is behind, or it is live, or it is free and merged.
use Rattle.std.proofs.Common.{◌≡◌, ◌+◌, false, sym, ap, ◌∙◌, subst, arith}
use Rattle.tlsf_store.specs.declared.records.Record.{Record}
use Rattle.tlsf_store.specs.Records.{record_at, is_free_state}
use Rattle.tlsf_store.specs.Cells.{Cells}
use Rattle.tlsf_heap.specs.declared.span.Span.{Span}
use Rattle.tlsf_heap.specs.Inner.Nodes.{InUse}
use Rattle.tlsf_heap.specs.Inner.At.{At, StandsAt, next_merged}
use Rattle.tlsf_heap.specs.Inner.Spans.{merged_by}
use Rattle.tlsf_heap.proofs.Inner.Mergeable.{next_merges, back_stays, back_is_live}
use Rattle.tlsf_heap.proofs.Inner.Spans.{is_read, next_in_use}
use Rattle.tlsf_heap.proofs.free.merge_next.Goals as goal

pub read_used-next-requires-clause-within : goal.read_used-next-requires-clause-within
read_used-next-requires-clause-within c = (next_in_use c.args.store.now.cells c.args.block c.in-Some.next_slot InUse c.requires.stands.0 c.requires.stands.1 c.requires.read c.in-Some.is).0

pub read_used-next-requires-clause-used : goal.read_used-next-requires-clause-used
read_used-next-requires-clause-used c = (next_in_use c.args.store.now.cells c.args.block c.in-Some.next_slot InUse c.requires.stands.0 c.requires.stands.1 c.requires.read c.in-Some.is).1

pub returns-in_default-clause-leads : goal.returns-in_default-clause-leads
returns-in_default-clause-leads c at stands =
    let same = back_stays c.args.store.now.cells at c.args.block stands (sym c.requires.read.next ∙ c.in_default.is) in
    subst (λ (a : At). StandsAt c.args.block.slot InUse c.args.store.now.cells a) (sym same) stands

pub returns-then-not-is_free-clause-leads : goal.returns-then-not-is_free-clause-leads
returns-then-not-is_free-clause-leads c at stands =
    let old : Cells = c.args.store.now.cells in
    let live : is_free_state (record_at old.records c.in-Some.next_slot).state ≡ false = sym (ap (λ (r : Record). is_free_state r.state) c.read_used-next.ensures.value) ∙ sym c.is_free.ensures ∙ c.if-not-is_free.true in
    rw c.read_used-next.ensures.left.cells
    (subst (λ (a : At). StandsAt c.args.block.slot InUse old a) (sym (back_is_live old at c.args.block stands c.in-Some.next_slot (sym c.requires.read.next ∙ c.in-Some.is) live)) stands)

pub overflow_add-merged : goal.overflow_add-merged
overflow_add-merged c =
    let merges = next_merges c.args.store.now.cells c.requires.stands.0 c.args.block c.requires.stands.1 c.in-Some.next_slot c.read_used-next.result c.requires.read c.in-Some.is c.read_used-next.ensures.value (sym c.is_free.ensures ∙ c.if-not-is_free.false) in
    omega (arith, merges.fits)

pub merge-requires : goal.merge-requires
merge-requires c =
    rw c.read_used-next.ensures.left.cells
    (next_merges c.args.store.now.cells c.requires.stands.0 c.args.block c.requires.stands.1 c.in-Some.next_slot c.read_used-next.result c.requires.read c.in-Some.is c.read_used-next.ensures.value (sym c.is_free.ensures ∙ c.if-not-is_free.false)).ready

pub returns-clause-leads : goal.returns-clause-leads
returns-clause-leads c at stands =
    rw (c.merge.ensures.cells, c.read_used-next.ensures.left.cells)
    (next_merges c.args.store.now.cells at c.args.block stands c.in-Some.next_slot c.read_used-next.result c.requires.read c.in-Some.is c.read_used-next.ensures.value (sym c.is_free.ensures ∙ c.if-not-is_free.false)).leads

pub returns-clause-read : goal.returns-clause-read
returns-clause-read c =
    let old : Cells = c.args.store.now.cells in
    let merged : Span = record c.args.block { size = c.args.block.size + c.read_used-next.result.size; next = c.read_used-next.result.next } in
    let merges = next_merges c.args.store.now.cells c.requires.stands.0 c.args.block c.requires.stands.1 c.in-Some.next_slot c.read_used-next.result c.requires.read c.in-Some.is c.read_used-next.ensures.value (sym c.is_free.ensures ∙ c.if-not-is_free.false) in
    rw (c.merge.ensures.cells, c.read_used-next.ensures.left.cells)
    (is_read (merged_by merged c.in-Some.next_slot c.read_used-next.result old) InUse (next_merged c.requires.stands.0) merged merges.leads merges.is c.requires.read.in_units)
