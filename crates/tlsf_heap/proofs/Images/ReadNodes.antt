-- Nodes read from records: linked slots are linked nodes, and the nodes of the chains are those of all areas.
use Rattle.std.proofs.Common.{◌≡◌, ℕ, zero, suc, Bool, true, false, List, [], ◌∷◌, ◌++◌, length, map, refl, sym, ap, ◌∙◌, count_by, Option, Some, None}
use Rattle.std.specs.List.{flat_map, AllByRecursion, list_all}
use Rattle.std.specs.Prelude.{is_none}
use Rattle.std.proofs.lemmas.Bool.{both_ways}
use Rattle.std.proofs.lemmas.List.{map-append}
use Rattle.tlsf_store.specs.declared.records.State.{State}
use Rattle.tlsf_store.specs.declared.records.State.TheVariants.{Vacant, Free, Live}
use Rattle.tlsf_store.specs.declared.records.Record.{Record}
use Rattle.tlsf_store.specs.declared.pools.Pool.{Pool as StoredPool}
use Rattle.tlsf_store.specs.Records.{record_at, is_free_state}
use Rattle.tlsf_store.specs.Cells.{Cells}
use Rattle.tlsf_heap.specs.Images.Image.{Sections}
use Rattle.tlsf_heap.specs.Images.Links.{follow, ends_within, is_linked}
use Rattle.tlsf_heap.specs.Images.Rules.{at, is_used, is_chain, chain_of, slots_in_list}
use Rattle.tlsf_heap.specs.Good.{times}
use Rattle.tlsf_heap.proofs.Images.Totals.{all_first, all_rest}
use Rattle.tlsf_heap.proofs.Images.Once.{linked_step, linked_ends}
use Rattle.tlsf_heap.specs.Images.Described.{sections_of}
use Rattle.tlsf_heap.specs.Inner.Entries.{entries_of}
use Rattle.tlsf_heap.specs.Inner.Nodes.{NodeState, InUse, Listed, Node, Area, Layout, nodes_of, has_slot, is_listed_state, owner_of}
use Rattle.tlsf_heap.specs.Inner.Represents.{in_pool, pool_views, record_state, first_slot, AreLinked, IsChain}
use Rattle.tlsf_heap.proofs.Counts.{count-map}

-- the state of the node of a block whose record has this state
abbrev pub node_state_in : State → NodeState
node_state_in Vacant = InUse
node_state_in Free = Listed
node_state_in Live = InUse

-- the node of a slot
abbrev pub node_at : List Record → ℕ → Node
node_at records slot =
    let r = record_at records slot in
    record { slot = slot; place = r.place; size = r.size; state = node_state_in r.state }

-- the area of a pool
abbrev pub area_from : Sections → StoredPool → Area
area_from sections pool = record { entry = pool; nodes = map (node_at sections.records) (chain_of sections pool) }

-- the layout that cells have by their links
abbrev pub layout_of : Cells → Layout
layout_of cells = record {
  count = length cells.records;
  areas = map (area_from (sections_of cells)) (entries_of cells.pools);
  lists = map (λ first. map (node_at cells.records) (slots_in_list (sections_of cells) first)) cells.heads;
  taken = [];
}

pub state_back : (state : State) → is_used state ≡ true → record_state (node_state_in state) ≡ state
state_back Vacant used = absurd (both_ways false refl used)
state_back Free used = refl
state_back Live used = refl

pub node_state_listed : (state : State) → is_listed_state (node_state_in state) ≡ is_free_state state
node_state_listed Vacant = refl
node_state_listed Free = refl
node_state_listed Live = refl

pub node_state_free : (state : State) (slot : ℕ) → is_none (owner_of (node_state_in state) slot) ≡ is_free_state state
node_state_free Vacant slot = refl
node_state_free Free slot = refl
node_state_free Live slot = refl

module _ (records : List Record) where
  pub first_followed : (n : ℕ) (next : ℕ → Option ℕ) (first : Option ℕ) → ends_within n next first ≡ true → first_slot (map (node_at records) (follow n next first)) ≡ first
  first_followed zero next None ends = refl
  first_followed zero next (Some slot) ends = absurd (both_ways false refl ends)
  first_followed (suc n) next None ends = refl
  first_followed (suc n) next (Some slot) ends = refl

  -- slots that are linked give nodes that are
  pub linked_followed : {V : Type 0} (says : Option ℕ → Node → Option ℕ → V) (at : ℕ → V) (test : ℕ → Bool) (next back : ℕ → Option ℕ) → ((slot : ℕ) → test slot ≡ true → at slot ≡ says (back slot) (node_at records slot) (next slot))
      → (n : ℕ) (before first : Option ℕ) → is_linked test next back n before first ≡ true → AreLinked says at before (map (node_at records) (follow n next first))
  linked_followed says at test next back tells zero before None linked = tt
  linked_followed says at test next back tells zero before (Some slot) linked = tt
  linked_followed says at test next back tells (suc n) before None linked = tt
  linked_followed says at test next back tells (suc n) before (Some slot) linked =
      let step = linked_step test next back n before slot linked in
      let behind = first_followed n next (next slot) (linked_ends test next back n (Some slot) (next slot) step.rest) in (
        tells slot step.passes ∙ ap (λ prev. says prev (node_at records slot) (next slot)) step.back_is ∙ ap (says before (node_at records slot)) (sym behind),
        linked_followed says at test next back tells n (Some slot) (next slot) step.rest,
      )

  pub count_slots : (slot : ℕ) (slots : List ℕ) → count_by (has_slot slot) (map (node_at records) slots) ≡ times slot slots
  count_slots slot slots = count-map (has_slot slot) (node_at records) slots

module _ (sections : Sections) where
  pub nodes_of_areas : (pools : List StoredPool) → nodes_of (map (area_from sections) pools) ≡ map (node_at sections.records) (flat_map (chain_of sections) pools)
  nodes_of_areas [] = refl
  nodes_of_areas (pool ∷ pools) =
      ap (λ nodes. map (node_at sections.records) (chain_of sections pool) ++ nodes) (nodes_of_areas pools)
      ∙ sym (map-append (node_at sections.records) (chain_of sections pool) (flat_map (chain_of sections) pools))

  chain_says : (slot : ℕ) → is_used (at sections slot).state ≡ true → pool_views sections.records slot ≡ in_pool (at sections slot).prev (node_at sections.records slot) (at sections slot).next
  chain_says slot used = let r = at sections slot in λ i. record { place = r.place; size = r.size; state = sym (state_back r.state used) i; prev = r.prev; next = r.next }

  -- the chain of each pool is one of nodes
  pub chains_are : (pools : List StoredPool) → list_all (is_chain sections) pools ≡ true → AllByRecursion (IsChain (pool_views sections.records)) (map (area_from sections) pools)
  chains_are [] all = tt
  chains_are (pool ∷ pools) all = (
    record {
      begins = first_followed sections.records (length sections.records) (λ slot. (at sections slot).next) (Some pool.first)
          (linked_ends (λ slot. is_used (at sections slot).state) (λ slot. (at sections slot).next) (λ slot. (at sections slot).prev) (length sections.records) None (Some pool.first) (all_first (is_chain sections) pool pools all));
      linked = linked_followed sections.records in_pool (pool_views sections.records) (λ slot. is_used (at sections slot).state) (λ slot. (at sections slot).next) (λ slot. (at sections slot).prev) chain_says (length sections.records) None (Some pool.first)
          (all_first (is_chain sections) pool pools all);
    },
    chains_are pools (all_rest (is_chain sections) pool pools all),
  )

  pub entries_are : (pools : List (Option StoredPool)) → map (λ (area : Area). area.entry) (map (area_from sections) (entries_of pools)) ≡ entries_of pools
  entries_are [] = refl
  entries_are (None ∷ pools) = entries_are pools
  entries_are (Some pool ∷ pools) = ap (λ entries. pool ∷ entries) (entries_are pools)
