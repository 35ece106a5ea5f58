-- No block is behind, or it is live, or it is free.
use Rattle.std.proofs.Common.{◌≡◌, true, false, sym, ap, ◌∙◌, Some, option_map}
use Rattle.tlsf_store.specs.declared.records.Record.{Record}
use Rattle.tlsf_store.specs.Records.{record_at, is_free_state}
use Rattle.tlsf_store.specs.Cells.{Cells}
use Rattle.tlsf_heap.specs.Inner.Nodes.{InUse, Node}
use Rattle.tlsf_heap.proofs.Inner.Mergeable.{listed_none, listed_live, listed_free}
use Rattle.tlsf_heap.proofs.Inner.Spans.{next_in_use}
use Rattle.tlsf_heap.proofs.realloc.free_behind.Goals as goal

pub read_used-next-requires-clause-within : goal.read_used-next-requires-clause-within
read_used-next-requires-clause-within c = (next_in_use c.args.store.now.cells c.args.block.now c.in_ok-next_slot.next_slot InUse c.requires.stands.0 c.requires.stands.1 c.requires.read c.in_ok-next_slot.was).0

pub read_used-next-requires-clause-used : goal.read_used-next-requires-clause-used
read_used-next-requires-clause-used c = (next_in_use c.args.store.now.cells c.args.block.now c.in_ok-next_slot.next_slot InUse c.requires.stands.0 c.requires.stands.1 c.requires.read c.in_ok-next_slot.was).1

pub returns-in_err-next_slot-clause-value : goal.returns-in_err-next_slot-clause-value
returns-in_err-next_slot-clause-value c at stands =
    rw c.from_residual.ensures (sym (ap (option_map (λ (node : Node). node.size)) (listed_none c.args.store.now.cells at c.args.block.now.slot InUse stands (sym c.requires.read.next ∙ c.in_err-next_slot.was))))

pub returns-then-not-is_free-clause-value : goal.returns-then-not-is_free-clause-value
returns-then-not-is_free-clause-value c at stands =
    let old : Cells = c.args.store.now.cells in
    let live : is_free_state (record_at old.records c.in_ok-next_slot.next_slot).state ≡ false = sym (ap (λ (r : Record). is_free_state r.state) c.read_used-next.ensures.value) ∙ sym c.is_free.ensures ∙ c.if-not-is_free.true in
    sym (ap (option_map (λ (node : Node). node.size)) (listed_live old at c.args.block.now.slot InUse stands c.in_ok-next_slot.next_slot (sym c.requires.read.next ∙ c.in_ok-next_slot.was) live))

pub returns-clause-value : goal.returns-clause-value
returns-clause-value c at stands =
    let old : Cells = c.args.store.now.cells in
    let free : is_free_state (record_at old.records c.in_ok-next_slot.next_slot).state ≡ true = sym (ap (λ (r : Record). is_free_state r.state) c.read_used-next.ensures.value) ∙ sym c.is_free.ensures ∙ c.if-not-is_free.false in
    ap (λ (r : Record). Some r.size) c.read_used-next.ensures.value ∙ sym (listed_free old at c.args.block.now.slot InUse stands c.in_ok-next_slot.next_slot (sym c.requires.read.next ∙ c.in_ok-next_slot.was) free)
