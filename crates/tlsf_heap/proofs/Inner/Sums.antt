-- Sums over slots: how many records are vacant, of nodes, and taken.
use Rattle.std.proofs.Common.{◌≡◌, ℕ, ◌+◌, ◌≤◌, length, refl, ap, ◌∙◌, arith, count_by}
use Rattle.std.proofs.lemmas.List.{get_or_past}
use Rattle.tlsf_store.specs.declared.records.Record.{Record}
use Rattle.tlsf_store.specs.declared.records.State.{State}
use Rattle.tlsf_store.specs.declared.records.State.TheVariants.{Vacant, Free, Live}
use Rattle.tlsf_store.specs.Records.{blank, record_at, vacant_count}
use Rattle.tlsf_store.specs.Cells.{Cells}
use Rattle.tlsf_store.proofs.RecordLaws.{mark}
use Rattle.tlsf_heap.specs.Good.{times}
use Rattle.tlsf_heap.specs.Inner.Nodes.{Node, Layout, nodes_of, has_slot}
use Rattle.tlsf_heap.specs.Inner.Represents.{uses_in, Represents}
use Rattle.tlsf_heap.proofs.Images.Counting.{sum_below-same, sum_below-add, sum_below-one, items_sum, places_sum}

marked_or_used : (r : Record) (s : State) → r.state ≡ s → mark r + uses_in r.state ≡ 1
marked_or_used r Vacant is = rw is refl
marked_or_used r Free is = rw is refl
marked_or_used r Live is = rw is refl

-- each record is vacant, of a node, or taken
pub all_records : (cells : Cells) (layout : Layout) → Represents cells layout → vacant_count cells.records + length (nodes_of layout.areas) + length layout.taken ≡ length cells.records
all_records cells layout was =
    let n : ℕ = length cells.records in
    let spare : (q : ℕ) → n ≤ q → count_by (has_slot q) (nodes_of layout.areas) + times q layout.taken ≡ 0 =
    λ q past. was.chains.once q ∙ ap (λ (r : Record). uses_in r.state) (get_or_past cells.records q blank past) in
    let nodes = items_sum (λ (node : Node). node.slot) n (nodes_of layout.areas) (λ q past. omega (arith, spare q past)) in
    let taken = items_sum (λ (slot : ℕ). slot) n layout.taken (λ q past. omega (arith, spare q past)) in
    omega (
      arith,
      places_sum mark cells.records blank,
      nodes,
      taken,
      sum_below-add (λ s. count_by (has_slot s) (nodes_of layout.areas)) (λ s. times s layout.taken) n,
      sum_below-add (λ s. mark (record_at cells.records s)) (λ s. count_by (has_slot s) (nodes_of layout.areas) + times s layout.taken) n,
      sum_below-same (λ s. mark (record_at cells.records s) + (count_by (has_slot s) (nodes_of layout.areas) + times s layout.taken)) (λ s. 1) n
          (λ s h. omega (arith, was.chains.once s, marked_or_used (record_at cells.records s) (record_at cells.records s).state refl)),
      sum_below-one n,
    )
