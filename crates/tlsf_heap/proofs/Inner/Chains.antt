-- What the chains of the pools and the lists of the classes tell of slots, and what keeps them.
use Rattle.std.proofs.Common.{◌≡◌, ◌≢◌, ℕ, ◌+◌, ◌<◌, ◌≤◌, Bool, false, ◌&&◌, eqb, List, [], ◌∷◌, length, map, refl, sym, ap, ◌∙◌, subst, arith, count_by, Option, Some, None, inl, inr}
use Rattle.std.specs.List.{AllByRecursion}
use Rattle.std.proofs.lemmas.Bool.{cases_lt, eq-eqb}
use Rattle.std.proofs.lemmas.List.{get_or_past}
use Rattle.tlsf_store.specs.declared.records.Record.{Record}
use Rattle.tlsf_store.specs.declared.records.State.{State}
use Rattle.tlsf_store.specs.declared.records.State.TheVariants.{Vacant, Free, Live}
use Rattle.tlsf_store.specs.Records.{blank, record_at}
use Rattle.tlsf_class.specs.Classes.{class}
use Rattle.tlsf_store.specs.Cells.{Cells}
use Rattle.tlsf_heap.specs.Inner.Entries.{padded}
use Rattle.tlsf_heap.specs.Good.{times}
use Rattle.tlsf_heap.specs.Inner.Nodes.{NodeState, InUse, Listed, Loose, Node, Area, nodes_of, nodes_in, has_slot, is_listed_state, is_listed_in}
use Rattle.tlsf_heap.specs.Inner.Positions.{plug, Position, filled, laid}
use Rattle.tlsf_heap.specs.Inner.Represents.{InPool, InList, in_pool, in_list, pool_view, pool_views, list_views, record_state, first_slot, AreLinked, IsChain, uses_in, AreChains, IsIndex, Agree, Represented, Represents}
use Rattle.tlsf_heap.proofs.Counts.{one_if, count-cons, count_and}
use Rattle.tlsf_heap.proofs.Content.FreeLists.{times-cons}
use Rattle.tlsf_heap.proofs.Inner.Plugs.{map-plug, all_parts, all_plugged, count-nodes, around, count-filled}
use Rattle.tlsf_heap.proofs.Inner.Links.{first-plug, from_behind, linked_same, linked_parts, linked_plugged}

pub not_taken : (q slot : ℕ) (slots : List ℕ) → times q (slot ∷ slots) ≡ 0 → (q ≢ slot) × (times q slots ≡ 0)
not_taken q slot slots none = (
  λ e. omega (arith, none, times-cons q slot slots, ap one_if (eq-eqb slot q (sym e))),
  omega (arith, none, times-cons q slot slots),
)

pub uses_most : (s : State) → uses_in s ≤ 1
uses_most Vacant = omega arith
uses_most Free = omega arith
uses_most Live = omega arith

-- a slot in use is in range
pub used_below : (records : List Record) (q : ℕ) → 1 ≤ uses_in (record_at records q).state → q < length records
used_below records q used = elim (cases_lt q (length records)) [
  | inl below ↦ below
  | inr past ↦ absurd (omega (arith, used, ap (λ (r : Record). uses_in r.state) (get_or_past records q blank past)))
]

module _ (at new : ℕ → InPool) where
  pub chains_same : (areas : List Area) → ((q : ℕ) → 1 ≤ count_by (has_slot q) (nodes_of areas) → new q ≡ at q) → AllByRecursion (IsChain at) areas → AllByRecursion (IsChain new) areas
  chains_same [] same chains = tt
  chains_same (area ∷ areas) same chains = (
    record { begins = chains.0.begins; linked = linked_same in_pool at new None area.nodes (λ q h. same q (omega (arith, h, count-nodes (has_slot q) area areas))) chains.0.linked },
    chains_same areas (λ q h. same q (omega (arith, h, count-nodes (has_slot q) area areas))) chains.1,
  )

  -- other nodes at the position, linked to those in front of it; all others read as before
  pub chains_refilled : (position : Position) (olds news : List Node) (taken kept : List ℕ) → AreChains at (filled position olds) taken
      → ((q : ℕ) → 1 ≤ around (has_slot q) position → new q ≡ at q) → first_slot news ≡ first_slot olds → AreLinked in_pool new (first_slot position.before) news
      → ((q : ℕ) → count_by (has_slot q) news + times q kept + uses_in (at q).state ≡ count_by (has_slot q) olds + times q taken + uses_in (new q).state)
      → AreChains new (filled position news) kept
  chains_refilled position olds news taken kept were same first linked counts =
      let parts = all_parts (IsChain at) position.areas_before (record { entry = position.entry; nodes = plug position.before olds } ∷ position.areas_behind) were.chains in
      let P : Option ℕ → Type 0 = λ o. AreLinked (from_behind in_pool) at o position.before in
      let before : AreLinked (from_behind in_pool) at (first_slot news) position.before = subst P (sym first) (linked_parts in_pool at position.before olds parts.1.0.linked).0 in
      record {
        chains = all_plugged (IsChain new) position.areas_before (record { entry = position.entry; nodes = plug position.before news } ∷ position.areas_behind)
            (chains_same position.areas_before (λ q h. same q (omega (arith, h))) parts.0) (
              record {
                begins = first-plug position.before news olds first ∙ parts.1.0.begins;
                linked = linked_plugged in_pool new position.before news (linked_same (from_behind in_pool) at new (first_slot news) position.before (λ q h. same q (omega (arith, h))) before) linked;
              },
              chains_same position.areas_behind (λ q h. same q (omega (arith, h))) parts.1.1,
            );
        once = λ q. omega (arith, counts q, were.once q, count-filled (has_slot q) position olds, count-filled (has_slot q) position news);
      }

-- the nodes at the position are linked to those in front of it
pub linked_at : (at : ℕ → InPool) (position : Position) (nodes : List Node) (taken : List ℕ) → AreChains at (filled position nodes) taken → AreLinked in_pool at (first_slot position.before) nodes
linked_at at position nodes taken were =
    let parts = all_parts (IsChain at) position.areas_before (record { entry = position.entry; nodes = plug position.before nodes } ∷ position.areas_behind) were.chains in
    (linked_parts in_pool at position.before nodes parts.1.0.linked).1

-- the entries don't see the nodes
pub entries-filled : (position : Position) (olds news : List Node) → map (λ (area : Area). area.entry) (filled position news) ≡ map (λ (area : Area). area.entry) (filled position olds)
entries-filled position olds news =
    map-plug (λ (area : Area). area.entry) position.areas_before (record { entry = position.entry; nodes = plug position.before news } ∷ position.areas_behind)
    ∙ sym (map-plug (λ (area : Area). area.entry) position.areas_before (record { entry = position.entry; nodes = plug position.before olds } ∷ position.areas_behind))

module _ (at : ℕ → InPool) (position : Position) (nodes : List Node) (taken : List ℕ) (were : AreChains at (filled position nodes) taken) where
  -- each slot stands once
  pub slots_once : (q : ℕ) → around (has_slot q) position + count_by (has_slot q) nodes + times q taken ≡ uses_in (at q).state
  slots_once q = omega (arith, were.once q, count-filled (has_slot q) position nodes)

  pub slots_most : (q : ℕ) → around (has_slot q) position + count_by (has_slot q) nodes + times q taken ≤ 1
  slots_most q = omega (arith, slots_once q, uses_most (at q).state)

-- the classes' lists where the nodes of the position change
pub agree_refilled : (position : Position) (olds news : List Node) (lists : List (List Node)) → Agree (filled position olds) lists
    → ((number : ℕ) (test : Node → Bool) → count_by (λ node. is_listed_in number node && test node) news ≡ count_by (λ node. is_listed_in number node && test node) olds)
    → Agree (filled position news) lists
agree_refilled position olds news lists agree same number test =
    let listed : Node → Bool = λ node. is_listed_in number node && test node in
    omega (arith, agree number test, same number test, count-filled listed position olds, count-filled listed position news)

-- a node that is in no list counts in none
pub unlisted : (number : ℕ) (test : Node → Bool) (node : Node) → is_listed_state node.state ≡ false → one_if (is_listed_in number node && test node) ≡ 0
unlisted number test node not_listed = ap (λ b. one_if ((b && eqb (class node.size) number) && test node)) not_listed

-- the index where no listed slot reads otherwise
pub index_same : (at new : ℕ → InList) (heads : List (Option ℕ)) (step_words : List ℕ) (level_word : ℕ) (lists : List (List Node))
    → ((number q : ℕ) → 1 ≤ count_by (has_slot q) (nodes_in number lists) → new q ≡ at q) → IsIndex at heads step_words level_word lists → IsIndex new heads step_words level_word lists
index_same at new heads step_words level_word lists same index = record {
  heads_are = index.heads_are;
  lists_count = index.lists_count;
  words_count = index.words_count;
  linked = λ number. linked_same in_list at new None (nodes_in number lists) (λ q h. same number q h) (index.linked number);
  bitmaps = index.bitmaps;
}

module _ (areas : List Area) (lists : List (List Node)) (agree : Agree areas lists) where
  -- what stands in a list stands in the areas
  pub listed_within : (number q : ℕ) → count_by (has_slot q) (nodes_in number lists) ≤ count_by (has_slot q) (nodes_of areas)
  listed_within number q = omega (arith, agree number (has_slot q), count_and (is_listed_in number) (has_slot q) (nodes_of areas))

-- the slot of a node that is in no list stands in none
pub unlisted_nowhere : (at : ℕ → InPool) (position : Position) (node : Node) (nodes : List Node) (lists : List (List Node)) (taken : List ℕ)
    → AreChains at (filled position (node ∷ nodes)) taken → Agree (filled position (node ∷ nodes)) lists → is_listed_state node.state ≡ false → (number : ℕ) → count_by (has_slot node.slot) (nodes_in number lists) ≡ 0
unlisted_nowhere at position node nodes lists taken chains agree not_listed number =
    let listed : Node → Bool = λ other. is_listed_in number other && has_slot node.slot other in
    omega (
      arith,
      agree number (has_slot node.slot),
      count-filled listed position (node ∷ nodes),
      count-cons listed node nodes,
      unlisted number (has_slot node.slot) node not_listed,
      slots_most at position (node ∷ nodes) taken chains node.slot,
      count-cons (has_slot node.slot) node nodes,
      ap one_if (eq-eqb node.slot node.slot refl),
      count_and (is_listed_in number) (has_slot node.slot) (nodes_of position.areas_before),
      count_and (is_listed_in number) (has_slot node.slot) position.before,
      count_and (is_listed_in number) (has_slot node.slot) (nodes_of position.areas_behind),
      count_and (is_listed_in number) (has_slot node.slot) nodes,
    )

-- the record of a node is in use
pub uses_node : (node_state : NodeState) → uses_in (record_state node_state) ≡ 1
uses_node InUse = refl
uses_node Listed = refl
uses_node Loose = refl

-- what the chains tell of a node at a position
pub record AtNode (records : List Record) (position : Position) (node : Node) (nodes : List Node) (taken : List ℕ) : Type 0 where
  -- its record, and those behind it
  pub says : pool_views records node.slot ≡ in_pool (first_slot position.before) node (first_slot nodes)
  pub linked : AreLinked in_pool (pool_views records) (Some node.slot) nodes
  pub used : uses_in (record_at records node.slot).state ≡ 1
  pub below : node.slot < length records
  -- each slot stands once
  pub once : (q : ℕ) → around (has_slot q) position + count_by (has_slot q) (node ∷ nodes) + times q taken ≡ uses_in (record_at records q).state
  pub most : (q : ℕ) → around (has_slot q) position + count_by (has_slot q) (node ∷ nodes) + times q taken ≤ 1
  pub behind_once : (q : ℕ) → count_by (has_slot q) nodes ≤ 1
  -- its own is none of the others
  pub outside_apart : (q : ℕ) → 1 ≤ around (has_slot q) position → q ≢ node.slot
  pub behind_apart : (q : ℕ) → 1 ≤ count_by (has_slot q) nodes → q ≢ node.slot
  pub taken_apart : (q : ℕ) → 1 ≤ times q taken → q ≢ node.slot
  -- which are in range
  pub behind_below : (q : ℕ) → 1 ≤ count_by (has_slot q) nodes → q < length records
  pub taken_below : (q : ℕ) → 1 ≤ times q taken → q < length records

pub at_node : (records : List Record) (position : Position) (node : Node) (nodes : List Node) (taken : List ℕ) → AreChains (pool_views records) (filled position (node ∷ nodes)) taken → AtNode records position node nodes taken
at_node records position node nodes taken were =
    let links = linked_at (pool_views records) position (node ∷ nodes) taken were in
    let once = slots_once (pool_views records) position (node ∷ nodes) taken were in
    let most = slots_most (pool_views records) position (node ∷ nodes) taken were in
    let counts : (q : ℕ) → count_by (has_slot q) (node ∷ nodes) ≡ one_if (eqb node.slot q) + count_by (has_slot q) nodes = λ q. count-cons (has_slot q) node nodes in
    let used : uses_in (record_at records node.slot).state ≡ 1 = ap (λ (v : InPool). uses_in v.state) links.0 ∙ uses_node node.state in
    let own : (q : ℕ) → q ≡ node.slot → one_if (eqb node.slot q) ≡ 1 = λ q e. ap one_if (eq-eqb node.slot q (sym e)) in
    record {
      says = links.0;
      linked = links.1;
      used = used;
      below = used_below records node.slot (omega (arith, used));
      once = once;
      most = most;
      behind_once = λ q. omega (arith, most q, counts q);
      outside_apart = λ q h e. omega (arith, h, most q, counts q, own q e);
      behind_apart = λ q h e. omega (arith, h, most q, counts q, own q e);
      taken_apart = λ q h e. omega (arith, h, most q, counts q, own q e);
      behind_below = λ q h. used_below records q (omega (arith, h, once q, counts q));
      taken_below = λ q h. used_below records q (omega (arith, h, once q));
    }

-- other nodes at the position, by other records
pub refilled : (cells : Cells) (count : ℕ) (position : Position) (olds news : List Node) (lists : List (List Node)) (taken left : List ℕ) (new : List Record) → Represents cells (laid count position olds lists taken)
    → length new ≡ length cells.records
    → ((q : ℕ) → 1 ≤ around (has_slot q) position → record_at new q ≡ record_at cells.records q)
    → first_slot news ≡ first_slot olds
    → AreLinked in_pool (pool_views new) (first_slot position.before) news
    → ((q : ℕ) → count_by (has_slot q) news + times q left + uses_in (record_at cells.records q).state ≡ count_by (has_slot q) olds + times q taken + uses_in (record_at new q).state)
    → ((number q : ℕ) → 1 ≤ count_by (has_slot q) (nodes_in number lists) → list_views new q ≡ list_views cells.records q)
    → ((number : ℕ) (test : Node → Bool) → count_by (λ node. is_listed_in number node && test node) news ≡ count_by (λ node. is_listed_in number node && test node) olds)
    → Represented new cells.heads cells.level_word cells.step_words cells.pools (laid count position news lists left)
refilled cells count position olds news lists taken left new was same_count same first linked counts listed_same listed = record {
  count = same_count ∙ was.count;
  entries = was.entries ∙ ap padded (sym (entries-filled position olds news));
  chains = chains_refilled (pool_views cells.records) (pool_views new) position olds news taken left was.chains (λ q h. ap pool_view (same q h)) first linked counts;
  index = index_same (list_views cells.records) (list_views new) cells.heads cells.step_words cells.level_word lists listed_same was.index;
  agree = agree_refilled position olds news lists was.agree listed;
}
