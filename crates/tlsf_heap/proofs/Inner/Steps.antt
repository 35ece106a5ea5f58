-- A node at a position that changes its state or enters its list: what the steps need and leave.
use Rattle.std.proofs.Common.{◌≡◌, ℕ, false, ◌∷◌, map, refl, sym, ap, ◌∙◌, subst, Some}
use Rattle.tlsf_class.specs.Classes.{class}
use Rattle.tlsf_store.specs.declared.records.State.TheVariants.{Free}
use Rattle.tlsf_store.specs.Records.{record_at}
use Rattle.tlsf_store.specs.Cells.{Cells, head_at}
use Rattle.tlsf_heap.specs.Inner.Edits.{IsUsed, linked, with_state}
use Rattle.tlsf_heap.specs.Inner.At.{AreCovered, At, areas_at, layout_at, StandsAt, at_turned, at_listed}
use Rattle.tlsf_heap.specs.Inner.Nodes.{NodeState, InUse, Listed, Loose, Node, turned, block_of, pool_of, is_listed_state}
use Rattle.tlsf_heap.specs.Inner.Represents.{InPool, record_state, first_slot, Represents}
use Rattle.tlsf_heap.proofs.Good.MallocIsGood.{IsWholeBlock}
use Rattle.tlsf_heap.proofs.Inner.Chains.{AtNode, at_node}
use Rattle.tlsf_heap.proofs.Inner.Used.{node_is_used, head_used}
use Rattle.tlsf_heap.proofs.Inner.StateSet.{state_set}
use Rattle.tlsf_heap.proofs.Inner.Linked.{linked_laid}
use Rattle.tlsf_heap.proofs.Meaning.Covered.{node_whole, covered_refilled}

module _ (cells : Cells) (slot : ℕ) (node_state : NodeState) (at : At) (stands : StandsAt slot node_state cells at) where
  here : AtNode cells.records at.position at.node at.nodes at.taken
  here = at_node cells.records at.position at.node at.nodes at.taken stands.0.chains

  pub slot_used : IsUsed cells.records (Some slot)
  slot_used =
      let P : ℕ → Type 0 = λ q. IsUsed cells.records (Some q) in
      subst P stands.1.slot_is (node_is_used cells.records at.position at.node at.nodes at.taken here)

  pub size_read : (record_at cells.records slot).size ≡ at.node.size
  size_read = ap (λ q. (record_at cells.records q).size) (sym stands.1.slot_is) ∙ ap (λ (v : InPool). v.size) here.says

  pub place_read : (record_at cells.records slot).place ≡ at.node.place
  place_read = ap (λ q. (record_at cells.records q).place) (sym stands.1.slot_is) ∙ ap (λ (v : InPool). v.place) here.says

  pub prev_is : (record_at cells.records slot).prev ≡ first_slot at.position.before
  prev_is = ap (λ q. (record_at cells.records q).prev) (sym stands.1.slot_is) ∙ ap (λ (v : InPool). v.prev) here.says

  pub next_is : (record_at cells.records slot).next ≡ first_slot at.nodes
  next_is = ap (λ q. (record_at cells.records q).next) (sym stands.1.slot_is) ∙ ap (λ (v : InPool). v.next) here.says

  -- the state that its record says
  pub state_read : (record_at cells.records slot).state ≡ record_state node_state
  state_read = ap (λ q. (record_at cells.records q).state) (sym stands.1.slot_is) ∙ ap (λ (v : InPool). v.state) here.says ∙ ap record_state stands.1.node_state_is

  pub whole_at : IsWholeBlock (block_of at.node)
  whole_at = node_whole at.position at.node at.nodes stands.1.covered

  pub first_used : IsUsed cells.records (head_at cells.heads (class at.node.size))
  first_used = head_used cells (layout_at at) at.node stands.0

  -- the node in another state covers the same
  pub covered_turned : (new : NodeState) → AreCovered 0 (map pool_of (areas_at (at_turned new at)))
  covered_turned new = covered_refilled at.position (at.node ∷ at.nodes) (turned new at.node ∷ at.nodes) (λ from to c. c) stands.1.covered

  pub turned_stands : (new : NodeState) → is_listed_state node_state ≡ false → is_listed_state new ≡ false → StandsAt slot new (with_state slot (record_state new) cells) (at_turned new at)
  turned_stands new was_not is_not =
      let P : ℕ → Type 0 = λ q. Represents (with_state q (record_state new) cells) (layout_at (at_turned new at)) in (
        subst P stands.1.slot_is (state_set cells at.count at.position at.node at.nodes at.lists at.taken stands.0 new (ap is_listed_state stands.1.node_state_is ∙ was_not) is_not),
        record { slot_is = stands.1.slot_is; node_state_is = refl; others_settled = stands.1.others_settled; covered = covered_turned new },
      )

-- the node enters its list
pub listed_stands : (cells : Cells) (slot : ℕ) (at : At) → StandsAt slot Loose cells at → StandsAt slot Listed (linked (class at.node.size) slot cells) (at_listed at)
listed_stands cells slot at stands =
    let P : Node → Type 0 = λ n. Represents cells (layout_at (record at { node = n })) in
    let Q : ℕ → Type 0 = λ q. Represents (linked (class at.node.size) q cells) (layout_at (at_listed at)) in
    let loose : at.node ≡ turned Loose at.node = ap (λ s. turned s at.node) stands.1.node_state_is in (
      subst Q stands.1.slot_is (linked_laid cells at.count at.position at.node at.nodes at.lists at.taken (subst P loose stands.0)),
      record { slot_is = stands.1.slot_is; node_state_is = refl; others_settled = stands.1.others_settled; covered = covered_turned cells slot Loose at stands Listed },
    )

-- a node in use becomes free, and enters its list
pub entered_stands : (cells : Cells) (slot : ℕ) (at : At) → StandsAt slot InUse cells at → StandsAt slot Listed (linked (class at.node.size) slot (with_state slot Free cells)) (at_listed at)
entered_stands cells slot at stands = listed_stands (with_state slot Free cells) slot (at_turned Loose at) (turned_stands cells slot InUse at stands Loose refl refl)
