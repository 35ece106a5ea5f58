-- What is known of a block, by its record and by its node.
use Rattle.std.proofs.Common.{◌≡◌, ℕ, ◌%◌, List, Some, sym, ap, ◌∙◌, subst}
use Rattle.tlsf_class.specs.Classes.{unit}
use Rattle.tlsf_store.specs.declared.records.Record.{Record}
use Rattle.tlsf_store.specs.Records.{record_at}
use Rattle.tlsf_store.specs.Cells.{Cells}
use Rattle.tlsf_heap.specs.declared.span.Span.{Span}
use Rattle.tlsf_heap.specs.Inner.Edits.{IsUsed}
use Rattle.tlsf_heap.specs.Inner.Nodes.{NodeState}
use Rattle.tlsf_heap.specs.Inner.At.{At, StandsAt}
use Rattle.tlsf_heap.specs.Inner.Spans.{span_of, span_at, IsRead}
use Rattle.tlsf_heap.proofs.Inner.Chains.{at_node}
use Rattle.tlsf_heap.proofs.Inner.Used.{prev_used, next_used}
use Rattle.tlsf_heap.proofs.Inner.Steps.{size_read, place_read, next_is}

-- a record that was read
pub read_of : (records : List Record) (slot : ℕ) (block : Record) → block ≡ record_at records slot → block.place % unit ≡ 0 → IsRead (span_of slot block) records
read_of records slot block read in_units = record {
  place = ap (λ (r : Record). r.place) read;
  size = ap (λ (r : Record). r.size) read;
  next = ap (λ (r : Record). r.next) read;
  in_units = in_units;
}

module _ (cells : Cells) (node_state : NodeState) (at : At) (span : Span) (stands : StandsAt span.slot node_state cells at) where
  pub span_is : IsRead span cells.records → span ≡ span_at at
  span_is read = λ i. record {
    slot = sym stands.1.slot_is i;
    place = (read.place ∙ place_read cells span.slot node_state at stands) i;
    size = (read.size ∙ size_read cells span.slot node_state at stands) i;
    next = (read.next ∙ next_is cells span.slot node_state at stands) i;
  }

  pub is_read : span ≡ span_at at → span.place % unit ≡ 0 → IsRead span cells.records
  is_read is in_units = record {
    place = ap (λ (s : Span). s.place) is ∙ sym (place_read cells span.slot node_state at stands);
    size = ap (λ (s : Span). s.size) is ∙ sym (size_read cells span.slot node_state at stands);
    next = ap (λ (s : Span). s.next) is ∙ sym (next_is cells span.slot node_state at stands);
    in_units = in_units;
  }

-- what was read is known still, where the node is the same block
pub read_stays : (old new : Cells) (span : Span) (was now : NodeState) (at after : At) → StandsAt span.slot was old at → StandsAt span.slot now new after → span_at at ≡ span_at after → IsRead span old.records → IsRead span new.records
read_stays old new span was now at after before stands same read = is_read new now after span stands (span_is old was at span before read ∙ same) read.in_units

-- the blocks beside one in its pool are in use
module _ (cells : Cells) (slot : ℕ) (node_state : NodeState) (at : At) (stands : StandsAt slot node_state cells at) where
  pub front_used : IsUsed cells.records (record_at cells.records slot).prev
  front_used =
      let P : ℕ → Type 0 = λ q. IsUsed cells.records (record_at cells.records q).prev in
      subst P stands.1.slot_is (prev_used cells.records at.position at.node at.nodes at.taken (at_node cells.records at.position at.node at.nodes at.taken stands.0.chains))

  pub back_used : IsUsed cells.records (record_at cells.records slot).next
  back_used =
      let P : ℕ → Type 0 = λ q. IsUsed cells.records (record_at cells.records q).next in
      subst P stands.1.slot_is (next_used cells.records at.position at.node at.nodes at.taken (at_node cells.records at.position at.node at.nodes at.taken stands.0.chains))

-- the slot behind that was read is in use
pub next_in_use : (cells : Cells) (span : Span) (n : ℕ) (node_state : NodeState) (at : At) → StandsAt span.slot node_state cells at → IsRead span cells.records → span.next ≡ Some n → IsUsed cells.records (Some n)
next_in_use cells span n node_state at stands read link = subst (λ o. IsUsed cells.records o) (sym read.next ∙ link) (back_used cells span.slot node_state at stands)
