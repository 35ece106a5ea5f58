use Rattle.std.proofs.Common.{◌≡◌, ℕ, ◌+◌, false, sym, ap, ◌∙◌, subst, arith, Option, Some}
use Rattle.tlsf_store.specs.declared.records.Record.{Record}
use Rattle.tlsf_store.specs.Records.{record_at, is_free_state}
use Rattle.tlsf_store.specs.Cells.{Cells}
use Rattle.tlsf_heap.specs.declared.span.Span.{Span}
use Rattle.tlsf_heap.specs.Inner.Edits.{IsUsed}
use Rattle.tlsf_heap.specs.Inner.Nodes.{InUse}
use Rattle.tlsf_heap.specs.Inner.At.{At, StandsAt, previous_merged}
use Rattle.tlsf_heap.specs.Inner.Spans.{merged_by}
use Rattle.tlsf_heap.proofs.Inner.Mergeable.{previous_merges, front_stays, front_is_live}
use Rattle.tlsf_heap.proofs.Inner.Spans.{is_read, front_used}
use Rattle.tlsf_heap.proofs.free.merge_previous.Goals as goal

-- the slot in front is in use
in_use : (cells : Cells) (slot p : ℕ) (at : At) (previous : Option ℕ) → StandsAt slot InUse cells at → previous ≡ (record_at cells.records slot).prev → previous ≡ Some p → IsUsed cells.records (Some p)
in_use cells slot p at previous stands is link = subst (λ o. IsUsed cells.records o) (sym is ∙ link) (front_used cells slot InUse at stands)

pub read_used-front-requires-clause-within : goal.read_used-front-requires-clause-within
read_used-front-requires-clause-within c = (in_use c.args.store.now.cells c.args.block.slot c.in-Some.previous_slot c.requires.stands.0 c.args.previous c.requires.stands.1 c.requires.previous c.in-Some.is).0

pub read_used-front-requires-clause-used : goal.read_used-front-requires-clause-used
read_used-front-requires-clause-used c = (in_use c.args.store.now.cells c.args.block.slot c.in-Some.previous_slot c.requires.stands.0 c.args.previous c.requires.stands.1 c.requires.previous c.in-Some.is).1

pub returns-in_default-clause-leads : goal.returns-in_default-clause-leads
returns-in_default-clause-leads c at stands =
    let same = front_stays c.args.store.now.cells at c.args.block stands (sym c.requires.previous ∙ c.in_default.is) in
    subst (λ (a : At). StandsAt c.args.block.slot InUse c.args.store.now.cells a) (sym same) stands

pub returns-then-not-is_free-clause-leads : goal.returns-then-not-is_free-clause-leads
returns-then-not-is_free-clause-leads c at stands =
    let old : Cells = c.args.store.now.cells in
    let live : is_free_state (record_at old.records c.in-Some.previous_slot).state ≡ false = sym (ap (λ (r : Record). is_free_state r.state) c.read_used-front.ensures.value) ∙ sym c.is_free.ensures ∙ c.if-not-is_free.true in
    rw c.read_used-front.ensures.left.cells
    (subst (λ (a : At). StandsAt c.args.block.slot InUse old a) (sym (front_is_live old at c.args.block stands c.in-Some.previous_slot (sym c.requires.previous ∙ c.in-Some.is) live)) stands)

pub overflow_add-merged : goal.overflow_add-merged
overflow_add-merged c =
    let merges = previous_merges c.args.store.now.cells c.requires.stands.0 c.args.block c.requires.stands.1 c.in-Some.previous_slot c.read_used-front.result c.requires.read (sym c.requires.previous ∙ c.in-Some.is) c.read_used-front.ensures.value (sym c.is_free.ensures ∙ c.if-not-is_free.false) in
    omega (arith, merges.fits)

pub merge-requires : goal.merge-requires
merge-requires c =
    rw c.read_used-front.ensures.left.cells
    (previous_merges c.args.store.now.cells c.requires.stands.0 c.args.block c.requires.stands.1 c.in-Some.previous_slot c.read_used-front.result c.requires.read (sym c.requires.previous ∙ c.in-Some.is) c.read_used-front.ensures.value (sym c.is_free.ensures ∙ c.if-not-is_free.false)).ready

pub returns-clause-leads : goal.returns-clause-leads
returns-clause-leads c at stands =
    rw (c.merge.ensures.cells, c.read_used-front.ensures.left.cells)
    (previous_merges c.args.store.now.cells at c.args.block stands c.in-Some.previous_slot c.read_used-front.result c.requires.read (sym c.requires.previous ∙ c.in-Some.is) c.read_used-front.ensures.value (sym c.is_free.ensures ∙ c.if-not-is_free.false)).leads

pub returns-clause-read : goal.returns-clause-read
returns-clause-read c =
    let old : Cells = c.args.store.now.cells in
    let front : Record = c.read_used-front.result in
    let merged : Span = record { slot = c.in-Some.previous_slot; place = front.place; size = front.size + c.args.block.size; next = c.args.block.next } in
    let merges = previous_merges c.args.store.now.cells c.requires.stands.0 c.args.block c.requires.stands.1 c.in-Some.previous_slot c.read_used-front.result c.requires.read (sym c.requires.previous ∙ c.in-Some.is) c.read_used-front.ensures.value (sym c.is_free.ensures ∙ c.if-not-is_free.false) in
    rw (c.merge.ensures.cells, c.read_used-front.ensures.left.cells)
    (is_read (merged_by merged c.args.block.slot front old) InUse (previous_merged c.requires.stands.0) merged merges.leads merges.is c.read_used-front.ensures.kept.place)
