-- Slots in use: a node's own, those beside it in its pool and in its list, and the first of each list.
use Rattle.std.proofs.Common.{◌≡◌, ◌≢◌, ℕ, ◌+◌, ◌≤◌, List, refl, sym, ap, ◌∙◌, subst, arith, count_by, Option, Some, None}
use Rattle.tlsf_class.specs.Classes.{class}
use Rattle.tlsf_store.specs.declared.records.Record.{Record}
use Rattle.tlsf_store.specs.declared.records.State.{State}
use Rattle.tlsf_store.specs.declared.records.State.TheVariants.{Vacant, Free, Live}
use Rattle.tlsf_store.specs.Records.{record_at}
use Rattle.tlsf_store.specs.Cells.{Cells, head_at}
use Rattle.tlsf_heap.specs.Good.{times}
use Rattle.tlsf_heap.specs.Inner.Edits.{IsUsed}
use Rattle.tlsf_heap.specs.Inner.Nodes.{Node, Layout, nodes_of, has_slot, nodes_in}
use Rattle.tlsf_heap.specs.Inner.Positions.{Position}
use Rattle.tlsf_heap.specs.Inner.Represents.{InPool, first_slot, uses_in, Represents}
use Rattle.tlsf_heap.proofs.Counts.{count-cons}
use Rattle.tlsf_heap.proofs.Inner.Links.{first_stands}
use Rattle.tlsf_heap.proofs.Inner.Chains.{used_below, listed_within, AtNode}
use Rattle.tlsf_heap.proofs.Inner.Lists.{head_of}

not_vacant : (s : State) → 1 ≤ uses_in s → s ≢ Vacant
not_vacant Vacant used = absurd (omega (arith, used))
not_vacant Free used = λ e. absurd (cc)
not_vacant Live used = λ e. absurd (cc)

pub is_used : (records : List Record) (q : ℕ) → 1 ≤ uses_in (record_at records q).state → IsUsed records (Some q)
is_used records q used = (used_below records q used, not_vacant (record_at records q).state used)

option_used : (records : List Record) (o : Option ℕ) → ((q : ℕ) → o ≡ Some q → 1 ≤ uses_in (record_at records q).state) → IsUsed records o
option_used records None used = tt
option_used records (Some q) used = is_used records q (used q refl)

-- the slot of a node, and one that is taken
pub stands_used : (cells : Cells) (layout : Layout) (q : ℕ) → Represents cells layout → 1 ≤ count_by (has_slot q) (nodes_of layout.areas) + times q layout.taken → IsUsed cells.records (Some q)
stands_used cells layout q was h = is_used cells.records q (omega (arith, h, was.chains.once q))

-- the first of some nodes that stand in a list
pub listed_used : (cells : Cells) (layout : Layout) (number : ℕ) (o : Option ℕ) → Represents cells layout → ((q : ℕ) → o ≡ Some q → 1 ≤ count_by (has_slot q) (nodes_in number layout.lists)) → IsUsed cells.records o
listed_used cells layout number o was h = option_used cells.records o (λ q e. omega (arith, h q e, was.chains.once q, listed_within layout.areas layout.lists was.agree number q))

-- the first of a class's list
pub head_used : (cells : Cells) (layout : Layout) (node : Node) → Represents cells layout → IsUsed cells.records (head_at cells.heads (class node.size))
head_used cells layout node was =
    let P : Option ℕ → Type 0 = λ o. IsUsed cells.records o in
    subst P (sym (ap (λ heads. head_at heads (class node.size)) was.index.heads_are ∙ head_of node layout.lists was.index.lists_count))
    (listed_used cells layout (class node.size) (first_slot (nodes_in (class node.size) layout.lists)) was (λ q e. first_stands (nodes_in (class node.size) layout.lists) q e))

module _ (records : List Record) (position : Position) (node : Node) (nodes : List Node) (taken : List ℕ) (here : AtNode records position node nodes taken) where
  pub node_is_used : IsUsed records (Some node.slot)
  node_is_used = is_used records node.slot (omega (arith, here.used))

  -- those beside it in its pool
  pub next_used : IsUsed records (record_at records node.slot).next
  next_used =
      let P : Option ℕ → Type 0 = λ o. IsUsed records o in
      subst P (sym (ap (λ (v : InPool). v.next) here.says)) (option_used records (first_slot nodes) (λ q e. omega (arith, here.once q, first_stands nodes q e, count-cons (has_slot q) node nodes)))

  pub prev_used : IsUsed records (record_at records node.slot).prev
  prev_used =
      let P : Option ℕ → Type 0 = λ o. IsUsed records o in
      subst P (sym (ap (λ (v : InPool). v.prev) here.says)) (option_used records (first_slot position.before) (λ q e. omega (arith, here.once q, first_stands position.before q e)))
