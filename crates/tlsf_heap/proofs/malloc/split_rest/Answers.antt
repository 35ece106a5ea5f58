use Rattle.std.proofs.Common.{◌≡◌, ℕ, refl, sym, ap, ◌∙◌, subst, arith}
use Rattle.tlsf_store.specs.Cells.{Cells}
use Rattle.tlsf_heap.specs.declared.span.Span.{Span}
use Rattle.tlsf_heap.specs.Inner.Nodes.{InUse, Listed}
use Rattle.tlsf_heap.specs.Inner.At.{At, StandsAt, at_turned, at_split_off}
use Rattle.tlsf_heap.specs.Inner.Spans.{IsRead}
use Rattle.tlsf_heap.proofs.Inner.Steps.{size_read}
use Rattle.tlsf_heap.proofs.Inner.Allotted.{slot_stands, rest_split_none, rest_split_stands}
use Rattle.tlsf_heap.proofs.malloc.split_rest.Goals as goal

-- the size that was read is the node's
size_is : (old : Cells) (span : Span) (at : At) → StandsAt span.slot InUse old at → IsRead span old.records → span.size ≡ at.node.size
size_is old span at stands read = read.size ∙ size_read old span.slot InUse at stands

pub returns-then-block-bytes-clause-leads : goal.returns-then-block-bytes-clause-leads
returns-then-block-bytes-clause-leads c at stands =
    let old : Cells = c.args.store.now.cells in
    (0, rest_split_none old c.args.block.now.slot 0 c.args.bytes at stands (sym c.if-block-bytes.true ∙ size_is old c.args.block.now at stands c.requires.read))

pub split_off-requires-clause-stands : goal.split_off-requires-clause-stands
split_off-requires-clause-stands c =
    let at : At = c.requires.stands.0 in
    (InUse, at, refl, slot_stands c.args.store.now.cells c.take_vacant.new.self.cells c.take_vacant.result c.args.block.now.slot c.in-Some.rest InUse at c.requires.stands.1 c.in-Some.is c.take_vacant.ensures.left.cells c.in-Some.ensures.within c.in-Some.ensures.vacant)

pub returns-clause-leads : goal.returns-clause-leads
returns-clause-leads c at stands =
    let old : Cells = c.args.store.now.cells in
    let rest : ℕ = c.in-Some.rest in
    let size = size_is old c.args.block.now at stands c.requires.read in
    let taken = slot_stands old c.take_vacant.new.self.cells c.take_vacant.result c.args.block.now.slot rest InUse at stands c.in-Some.is c.take_vacant.ensures.left.cells c.in-Some.ensures.within c.in-Some.ensures.vacant in
    let P : At → Type 0 = λ a. StandsAt rest Listed c.split_off.new.store.cells (at_split_off rest c.args.bytes a) in
    let same : at_turned InUse at ≡ at = ap (λ s. at_turned s at) (sym stands.1.node_state_is) in
    (rest, rest_split_stands old c.split_off.new.store.cells c.args.block.now.slot rest c.args.bytes at stands (omega (arith, c.requires.most, c.if-block-bytes.false, size)) (subst P same (c.split_off.ensures.leads InUse at refl taken)))
