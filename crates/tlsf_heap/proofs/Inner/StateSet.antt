-- A block that is in no list changes its state.
use Rattle.std.proofs.Common.{◌≡◌, ◌≢◌, ℕ, Bool, false, ◌&&◌, List, ◌∷◌, refl, sym, ap, ◌∙◌, subst, arith, Some, inl, inr}
use Rattle.std.proofs.lemmas.Bool.{cases_eq}
use Rattle.tlsf_store.specs.declared.records.Record.{Record}
use Rattle.tlsf_store.specs.Records.{record_at}
use Rattle.tlsf_store.specs.Cells.{Cells}
use Rattle.tlsf_heap.specs.Inner.Edits.{edited_in, with_state}
use Rattle.tlsf_heap.specs.Inner.Nodes.{NodeState, Node, turned, has_slot, is_listed_state, is_listed_in}
use Rattle.tlsf_heap.specs.Inner.Positions.{Position, laid}
use Rattle.tlsf_heap.specs.Inner.Represents.{InPool, pool_view, list_view, pool_views, record_state, in_pool, uses_in, Represents}
use Rattle.tlsf_heap.proofs.Counts.{count-cons}
use Rattle.tlsf_heap.proofs.Inner.Links.{Some-same, linked_same}
use Rattle.tlsf_heap.proofs.Inner.Reads.{length-edited, edited_here, edited_apart, edited_kept}
use Rattle.tlsf_heap.proofs.Inner.Chains.{uses_node, unlisted, AtNode, at_node, refilled}

module _ (cells : Cells) (count : ℕ) (position : Position) (node : Node) (nodes : List Node) (lists : List (List Node)) (taken : List ℕ) (was : Represents cells (laid count position (node ∷ nodes) lists taken)) where
  pub state_set : (node_state : NodeState) → is_listed_state node.state ≡ false → is_listed_state node_state ≡ false
      → Represents (with_state node.slot (record_state node_state) cells) (laid count position (turned node_state node ∷ nodes) lists taken)
  state_set node_state was_not is_not =
      let edit : Record → Record = λ r. record r { state = record_state node_state } in
      let new : List Record = edited_in edit (Some node.slot) cells.records in
      let after : Node = turned node_state node in
      let here : AtNode cells.records position node nodes taken = at_node cells.records position node nodes taken was.chains in
      let at_slot : record_at new node.slot ≡ edit (record_at cells.records node.slot) = edited_here edit (Some node.slot) cells.records node.slot here.below refl in
      let others : (q : ℕ) → q ≢ node.slot → record_at new q ≡ record_at cells.records q = λ q apart. edited_apart edit (Some node.slot) cells.records q (λ e. apart (sym (Some-same node.slot q e))) in
      let in_use : (q : ℕ) → uses_in (record_at new q).state ≡ uses_in (record_at cells.records q).state = λ q. (elim (cases_eq q node.slot) [
        | inl at ↦
            let S : ℕ → Type 0 = λ n. uses_in (record_at new n).state ≡ uses_in (record_at cells.records n).state in
            subst S (sym at) (ap (λ (r : Record). uses_in r.state) at_slot ∙ uses_node node_state ∙ sym here.used)
        | inr apart ↦ ap (λ (r : Record). uses_in r.state) (others q apart)
      ]) in
      refilled cells count position (node ∷ nodes) (after ∷ nodes) lists taken taken new was (length-edited edit (Some node.slot) cells.records) (λ q h. others q (here.outside_apart q h)) refl (
        ap pool_view at_slot ∙ ap (λ (v : InPool). record v { state = record_state node_state }) here.says,
        linked_same in_pool (pool_views cells.records) (pool_views new) (Some node.slot) nodes (λ q h. ap pool_view (others q (here.behind_apart q h))) here.linked,
      )
      (λ q. omega (arith, in_use q, count-cons (has_slot q) node nodes, count-cons (has_slot q) after nodes))
      (λ number q h. edited_kept list_view edit (λ r. refl) (Some node.slot) cells.records q)
      (λ number test.
      let listed : Node → Bool = λ other. is_listed_in number other && test other in
      omega (arith, count-cons listed node nodes, count-cons listed after nodes, unlisted number test node was_not, unlisted number test after is_not))
