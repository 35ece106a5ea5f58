-- The content of cells that represent a layout is that of the layout.
use Rattle.std.proofs.Common.{◌≡◌, ℕ, zero, suc, ◌≤◌, Bool, true, not, ◌&&◌, eqb, List, [], ◌∷◌, length, map, refl, sym, ap, ◌∙◌, arith, count_by, Option, Some, None, inl, inr}
use Rattle.std.specs.List.{AllByRecursion}
use Rattle.std.proofs.lemmas.Bool.{cases_Bool, eq-eqb, eqb-true}
use Rattle.std.proofs.lemmas.List.{length-append, length-map}
use Rattle.std.proofs.lemmas.List.Sums.{count_by-le-length}
use Rattle.tlsf_class.specs.Classes.{classes}
use Rattle.tlsf_store.specs.declared.records.Record.{Record}
use Rattle.tlsf_store.specs.Records.{record_at}
use Rattle.tlsf_store.specs.Cells.{Cells}
use Rattle.tlsf_heap.specs.Inner.Entries.{entries_of}
use Rattle.tlsf_heap.proofs.Inner.EntryLists.{entries_of-padded}
use Rattle.tlsf_heap.specs.Inner.Nodes.{NodeState, InUse, Listed, Loose, Node, Area, Layout, owner_of, block_of, pool_of, content_by, nodes_of, nodes_in, is_listed_in}
use Rattle.tlsf_heap.specs.Inner.Represents.{InPool, in_pool, in_list, pool_views, list_views, record_state, first_slot, AreLinked, IsChain, Represents}
use Rattle.tlsf_heap.specs.Inner.Following.{follow, owner_in, block_at, pool_from, list_from, content_of, Stands}
use Rattle.tlsf_heap.proofs.Counts.{one_if, count-cons, count_and, count_all}
use Rattle.tlsf_heap.proofs.Inner.Plugs.{count-nodes}
use Rattle.tlsf_heap.proofs.Inner.Sums.{all_records}

-- following what is said at linked nodes gives their slots
pub follow_linked : {V : Type 0} (says : Option ℕ → Node → Option ℕ → V) (at : ℕ → V) (next : V → Option ℕ) → ((prev : Option ℕ) (node : Node) (after : Option ℕ) → next (says prev node after) ≡ after)
    → (n : ℕ) (before : Option ℕ) (nodes : List Node) → length nodes ≤ n → AreLinked says at before nodes → follow n (λ slot. next (at slot)) (first_slot nodes) ≡ map (λ node. node.slot) nodes
follow_linked says at next tells zero before [] few l = refl
follow_linked says at next tells zero before (node ∷ nodes) few l = absurd (omega (arith, few))
follow_linked says at next tells (suc n) before [] few l = refl
follow_linked says at next tells (suc n) before (node ∷ nodes) few l =
    ap (λ first. node.slot ∷ follow n (λ slot. next (at slot)) first) (ap next l.0 ∙ tells before node (first_slot nodes))
    ∙ ap (λ slots. node.slot ∷ slots) (follow_linked says at next tells n (Some node.slot) nodes (omega (arith, few)) l.1)

owner_is : (node_state : NodeState) (slot : ℕ) → owner_in (record_state node_state) slot ≡ owner_of node_state slot
owner_is InUse slot = refl
owner_is Listed slot = refl
owner_is Loose slot = refl

module _ (records : List Record) where
  pub blocks_read : (before : Option ℕ) (nodes : List Node) → AreLinked in_pool (pool_views records) before nodes → map (block_at records) (map (λ node. node.slot) nodes) ≡ map block_of nodes
  blocks_read before [] l = refl
  blocks_read before (node ∷ nodes) l =
      let here : block_at records node.slot ≡ block_of node =
      ap (λ (v : InPool). record { place = v.place; size = v.size; owner = owner_in v.state node.slot }) l.0 ∙ ap (λ o. record { place = node.place; size = node.size; owner = o }) (owner_is node.state node.slot) in
      ap (λ block. block ∷ map (block_at records) (map (λ n. n.slot) nodes)) here ∙ ap (λ blocks. block_of node ∷ blocks) (blocks_read (Some node.slot) nodes l.1)

  pools_read : (areas : List Area) → length (nodes_of areas) ≤ length records → AllByRecursion (IsChain (pool_views records)) areas → map (pool_from records) (map (λ (area : Area). area.entry) areas) ≡ map pool_of areas
  pools_read [] few chains = refl
  pools_read (area ∷ areas) few chains =
      let both = length-append area.nodes (nodes_of areas) in
      let slots = ap (follow (length records) (λ slot. (record_at records slot).next)) (sym chains.0.begins)
      ∙ follow_linked in_pool (pool_views records) (λ v. v.next) (λ prev node after. refl) (length records) None area.nodes (omega (arith, few, both)) chains.0.linked in
      let blocks = ap (map (block_at records)) slots ∙ blocks_read None area.nodes chains.0.linked in
      ap (λ bs. record { base = area.entry.base; bytes = area.entry.bytes; blocks = bs } ∷ map (pool_from records) (map (λ (a : Area). a.entry) areas)) blocks
      ∙ ap (λ pools. pool_of area ∷ pools) (pools_read areas (omega (arith, few, both)) chains.1)

  -- a node that begins elsewhere than its record says
  abbrev pub strays : Node → Bool
  strays node = not (eqb (record_at records node.slot).place node.place)

  none_strays : (before : Option ℕ) (nodes : List Node) → AreLinked in_pool (pool_views records) before nodes → count_by strays nodes ≡ 0
  none_strays before [] l = refl
  none_strays before (node ∷ nodes) l =
      omega (arith, count-cons strays node nodes, ap (λ b. one_if (not b)) (eq-eqb (record_at records node.slot).place node.place (ap (λ (v : InPool). v.place) l.0)), none_strays (Some node.slot) nodes l.1)

  none_in_areas : (areas : List Area) → AllByRecursion (IsChain (pool_views records)) areas → count_by strays (nodes_of areas) ≡ 0
  none_in_areas [] chains = refl
  none_in_areas (area ∷ areas) chains = omega (arith, count-nodes strays area areas, none_strays None area.nodes chains.0.linked, none_in_areas areas chains.1)

  places_read : (nodes : List Node) → count_by strays nodes ≡ 0 → map (λ slot. (record_at records slot).place) (map (λ node. node.slot) nodes) ≡ map (λ node. node.place) nodes
  places_read [] none = refl
  places_read (node ∷ nodes) none = elim (cases_Bool (eqb (record_at records node.slot).place node.place)) [
    | inl same ↦
        ap (λ place. place ∷ map (λ slot. (record_at records slot).place) (map (λ n. n.slot) nodes)) (eqb-true (record_at records node.slot).place node.place same)
        ∙ ap (λ places. node.place ∷ places) (places_read nodes (omega (arith, none, count-cons strays node nodes)))
    | inr apart ↦ absurd (omega (arith, none, count-cons strays node nodes, ap (λ b. one_if (not b)) apart))
  ]

module _ (cells : Cells) (layout : Layout) (was : Represents cells layout) where
  pub few : length (nodes_of layout.areas) ≤ length cells.records
  few = omega (arith, all_records cells layout was)

  pub list_few : (number : ℕ) → length (nodes_in number layout.lists) ≤ length cells.records
  list_few number =
      let all : Node → Bool = λ node. true in
      omega (arith, few, count_all (nodes_in number layout.lists), was.agree number all, count_by-le-length (λ node. is_listed_in number node && true) (nodes_of layout.areas))

  pub list_strays : (number : ℕ) → count_by (strays cells.records) (nodes_in number layout.lists) ≡ 0
  list_strays number =
      omega (arith, was.agree number (strays cells.records), count_and (is_listed_in number) (strays cells.records) (nodes_of layout.areas), none_in_areas cells.records layout.areas was.chains.chains)

  -- the lists, one after the other
  lists_read : (lists : List (List Node)) → ((number : ℕ) → (length (nodes_in number lists) ≤ length cells.records) × (count_by (strays cells.records) (nodes_in number lists) ≡ 0) × AreLinked in_list (list_views cells.records) None (nodes_in number lists))
      → map (λ first. map (λ slot. (record_at cells.records slot).place) (list_from cells.records first)) (map first_slot lists) ≡ map (map (λ node. node.place)) lists
  lists_read [] facts = refl
  lists_read (list ∷ lists) facts =
      let fact = facts 0 in
      let slots = follow_linked in_list (list_views cells.records) (λ v. v.next) (λ prev node after. refl) (length cells.records) None list fact.0 fact.2 in
      let here = ap (map (λ slot. (record_at cells.records slot).place)) slots ∙ places_read cells.records list fact.1 in
      ap (λ places. places ∷ map (λ first. map (λ slot. (record_at cells.records slot).place) (list_from cells.records first)) (map first_slot lists)) here
      ∙ ap (λ others. map (λ node. node.place) list ∷ others) (lists_read lists (λ number. facts (suc number)))

  pub content_is : content_of cells ≡ content_by layout
  unfolding content_of
  content_is =
      let pools : map (pool_from cells.records) (entries_of cells.pools) ≡ map pool_of layout.areas =
      ap (map (pool_from cells.records)) (ap entries_of was.entries ∙ entries_of-padded (map (λ (area : Area). area.entry) layout.areas)) ∙ pools_read cells.records layout.areas few was.chains.chains in
      let lists : map (λ first. map (λ slot. (record_at cells.records slot).place) (list_from cells.records first)) cells.heads ≡ map (map (λ node. node.place)) layout.lists =
      ap (map (λ first. map (λ slot. (record_at cells.records slot).place) (list_from cells.records first))) was.index.heads_are
      ∙ lists_read layout.lists (λ number. (list_few number, list_strays number, was.index.linked number)) in
      λ i. record { records = was.count i; pools = pools i; lists = lists i }

pub stood_for : (cells : Cells) (stands : Stands cells) → content_of cells ≡ content_by stands.layout
stood_for cells stands = content_is cells stands.layout stands.represented

pub records_are : (cells : Cells) → (content_of cells).records ≡ length cells.records
unfolding content_of
records_are cells = refl

-- the index of cells that stand is that of a store
pub heads_count : (cells : Cells) (stands : Stands cells) → length cells.heads ≡ classes
heads_count cells stands = ap length stands.represented.index.heads_are ∙ length-map stands.layout.lists first_slot ∙ stands.represented.index.lists_count
