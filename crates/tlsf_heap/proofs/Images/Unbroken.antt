-- Cells that stand, of which no live record has a neighbour in a list, break no rule.
use Rattle.std.proofs.Common.{◌≡◌, ℕ, zero, suc, ◌+◌, ◌<◌, ◌≤◌, ◌%◌, Bool, true, false, not, ◌&&◌, ◌||◌, eqb, List, [], ◌∷◌, ◌++◌, length, map, refl, sym, ap, ◌∙◌, subst, arith, count_by, Option, Some, None, inl, inr}
use Rattle.std.specs.Prelude.{IsTrue, nat_le, nat_lt, nat_eq, is_none, slice_index_or}
use Rattle.std.specs.Option.{option_eq}
use Rattle.std.specs.List.{list_all, list_any, flat_map, AllByRecursion}
use Rattle.std.proofs.lemmas.Bool.{cases_Bool, and_from, eqb-true, eq-eqb, le-leb, lt-ltb, or_right}
use Rattle.std.proofs.lemmas.List.{get_or-map, get_or_default, length-map, length-append, map-append}
use Rattle.std.proofs.lemmas.List.Folds.{list_any_at}
use Rattle.std.proofs.lemmas.List.Sums.{list_all-from_AllPass}
use Rattle.tlsf_class.specs.Classes.{unit, class, greatest_size}
use Rattle.tlsf_class.proofs.ClassLaws.{class-lt}
use Rattle.tlsf_store.specs.declared.records.State.{State}
use Rattle.tlsf_store.specs.declared.records.State.TheVariants.{Vacant, Free, Live}
use Rattle.tlsf_store.specs.declared.pools.Pool.{Pool as StoredPool}
use Rattle.tlsf_store.specs.Records.{blank, IsBelow, is_free_state}
use Rattle.tlsf_store.specs.Cells.{Cells}
use Rattle.tlsf_heap.specs.Images.Image.{Sections}
use Rattle.tlsf_store.specs.Ranges.{end_of_places, can_be_pool}
use Rattle.tlsf_heap.specs.Images.Links.{follow, is_linked}
use Rattle.tlsf_heap.specs.Images.Rules.{at, is_below, is_used, has_links_in, has_record_links, is_pool, are_pools, is_chain, chain_of, covers, is_among, are_merged, is_list, are_lists, slots_in_list}
use Rattle.tlsf_heap.proofs.Images.LinkLemmas.{linked_on, linked_end}
use Rattle.tlsf_heap.proofs.Images.Counting.{counts_any}
use Rattle.tlsf_heap.proofs.Images.Totals.{from_all_below, among_any}
use Rattle.tlsf_heap.proofs.Images.UnbrokenRules.{IsUnbroken}
use Rattle.tlsf_heap.specs.Images.Described.{sections_of}
use Rattle.tlsf_heap.specs.Content.{is_free}
use Rattle.tlsf_heap.specs.Good.{Covers, NoFreeNeighbours, IsGoodPool, AreGoodPools}
use Rattle.tlsf_heap.specs.Inner.Entries.{entries_of}
use Rattle.tlsf_heap.specs.Inner.Nodes.{NodeState, InUse, Listed, Loose, Node, Area, owner_of, block_of, pool_of, nodes_of, nodes_in, has_slot}
use Rattle.tlsf_heap.specs.Inner.Represents.{InPool, InList, in_pool, in_list, pool_views, list_views, record_state, first_slot, AreLinked, IsChain, uses_in}
use Rattle.tlsf_heap.specs.Inner.Following.{Stands}
use Rattle.tlsf_heap.proofs.Images.Alike.{LiveAlone}
use Rattle.tlsf_heap.proofs.Counts.{one_if, count-cons, count-plug, count-map, FirstPassing, first_passing}
use Rattle.tlsf_heap.proofs.Inner.Plugs.{count-nodes}
use Rattle.tlsf_heap.proofs.Inner.Links.{first_stands, linked_parts}
use Rattle.tlsf_heap.proofs.Inner.Chains.{listed_within}
use Rattle.tlsf_heap.proofs.Inner.Followed.{follow_linked, few, list_few}
use Rattle.tlsf_heap.proofs.Images.FoundNodes.{found, used_stands, slot_below, none_strange, free_stands}
use Rattle.tlsf_heap.proofs.Inner.EntryLists.{entries_of-padded}

link_same : (one other : Option ℕ) → one ≡ other → option_eq nat_eq one other ≡ true
link_same one other same = let P : Option ℕ → Type 0 = λ o. option_eq nat_eq one o ≡ true in subst P same (itself one)
  where
    itself : (one : Option ℕ) → option_eq nat_eq one one ≡ true
    itself None = refl
    itself (Some a) = eq-eqb a a refl

-- linked nodes whose slots pass a test are linked slots
linked_slots : {V : Type 0} (says : Option ℕ → Node → Option ℕ → V) (at : ℕ → V) (next back : V → Option ℕ) → ((prev : Option ℕ) (node : Node) (after : Option ℕ) → next (says prev node after) ≡ after)
    → ((prev : Option ℕ) (node : Node) (after : Option ℕ) → back (says prev node after) ≡ prev) → (test : ℕ → Bool) (n : ℕ) (before : Option ℕ) (nodes : List Node) → length nodes ≤ n → AreLinked says at before nodes
    → count_by (λ node. not (test node.slot)) nodes ≡ 0 → is_linked test (λ slot. next (at slot)) (λ slot. back (at slot)) n before (first_slot nodes) ≡ true
linked_slots says at next back tells tells_back test n before [] short linked passes = linked_end test (λ slot. next (at slot)) (λ slot. back (at slot)) n before
linked_slots says at next back tells tells_back test zero before (node ∷ nodes) short linked passes = absurd (omega (arith, short))
linked_slots says at next back tells tells_back test (suc n) before (node ∷ nodes) short linked passes =
    let counts = count-cons (λ (other : Node). not (test other.slot)) node nodes in
    let here : test node.slot ≡ true = (elim (cases_Bool (test node.slot)) [
      | inl is ↦ is
      | inr fails ↦ absurd (omega (arith, passes, counts, ap (λ b. one_if (not b)) fails))
    ]) in
    let linked_here = link_same (back (at node.slot)) before (ap back linked.0 ∙ tells_back before node (first_slot nodes)) in
    let rest = linked_slots says at next back tells tells_back test n (Some node.slot) nodes (omega (arith, short)) linked.1 (omega (arith, passes, counts)) in
    linked_on test (λ slot. next (at slot)) (λ slot. back (at slot)) n before node.slot (and_from (test node.slot) _ here linked_here)
    ∙ ap (is_linked test (λ slot. next (at slot)) (λ slot. back (at slot)) n (Some node.slot)) (ap next linked.0 ∙ tells before node (first_slot nodes))
    ∙ rest

used_node_state : (node_state : NodeState) → is_used (record_state node_state) ≡ true
used_node_state InUse = refl
used_node_state Listed = refl
used_node_state Loose = refl

free_node_state : (node_state : NodeState) (slot : ℕ) → is_none (owner_of node_state slot) ≡ is_free_state (record_state node_state)
free_node_state InUse slot = refl
free_node_state Listed slot = refl
free_node_state Loose slot = refl

pub uses_one : (state : State) → is_used state ≡ true → 1 ≤ uses_in state
uses_one Vacant used = absurd (cc)
uses_one Free used = omega arith
uses_one Live used = omega arith

below_is : (count : ℕ) (link : Option ℕ) → IsBelow count link → is_below count link ≡ true
below_is count None below = refl
below_is count (Some slot) below = lt-ltb slot count below

-- lists from a class on, each by its number
lists_from : (sections : Sections) (from : ℕ) (heads : List (Option ℕ)) → ((number : ℕ) → number < length heads → is_list sections (from + number) (slice_index_or heads number None) ≡ true) → are_lists sections from heads ≡ true
lists_from sections from [] all = refl
lists_from sections from (first ∷ heads) all =
    let P : ℕ → Type 0 = λ number. is_list sections number first ≡ true in
    let same : from + 0 ≡ from = omega arith in
    and_from (is_list sections from first) (are_lists sections (from + 1) heads) (subst P same (all 0 (omega arith)))
    (lists_from sections (from + 1) heads (λ number below.
    let Q : ℕ → Type 0 = λ k. is_list sections k (slice_index_or heads number None) ≡ true in
    let next : from + suc number ≡ (from + 1) + number = omega arith in
    subst Q next (all (suc number) (omega (arith, below)))))

module _ (cells : Cells) (stands : Stands cells) where
  abbrev sections : Sections
  sections = sections_of cells

  abbrev areas : List Area
  areas = stands.layout.areas

  abbrev used : ℕ → Bool
  used slot = is_used (at sections slot).state

  abbrev pools_of : List Area → List StoredPool
  pools_of some = map (λ area. area.entry) some

  abbrev slots : List Node → List ℕ
  slots nodes = map (λ node. node.slot) nodes

  pools_are : entries_of cells.pools ≡ pools_of areas
  pools_are = ap entries_of stands.represented.entries ∙ entries_of-padded (map (λ (area : Area). area.entry) areas)

  none_vacant : (before : Option ℕ) (nodes : List Node) → AreLinked in_pool (pool_views cells.records) before nodes → count_by (λ node. not (used node.slot)) nodes ≡ 0
  none_vacant before [] linked = refl
  none_vacant before (node ∷ nodes) linked =
      let state : (at sections node.slot).state ≡ record_state node.state = ap (λ (v : InPool). v.state) linked.0 in
      omega (arith, count-cons (λ (other : Node). not (used other.slot)) node nodes, ap (λ s. one_if (not (is_used s))) state, ap (λ b. one_if (not b)) (used_node_state node.state), none_vacant (Some node.slot) nodes linked.1)

  -- what is known of an area: its nodes are linked, and not too many, and it stands for a good pool
  abbrev IsKnown : Area → Type 0
  IsKnown area = IsChain (pool_views cells.records) area × (length area.nodes ≤ length cells.records) × IsGoodPool (pool_of area)

  each_known : (from : ℕ) (some : List Area) → AllByRecursion (IsChain (pool_views cells.records)) some → length (nodes_of some) ≤ length cells.records → AreGoodPools from (map pool_of some) → AllByRecursion IsKnown some
  each_known from [] chains few good = tt
  each_known from (area ∷ some) chains few good =
      let both = length-append area.nodes (nodes_of some) in
      ((chains.0, omega (arith, few, both), good.1), each_known (area.entry.base + area.entry.bytes) some chains.1 (omega (arith, few, both)) good.2)

  known : AllByRecursion IsKnown areas
  known = each_known 0 areas stands.represented.chains.chains (few cells stands.layout stands.represented) stands.good.pools_good

  -- a test that the entry of each known area passes
  all_pass : (test : StoredPool → Bool) → ((area : Area) → IsKnown area → test area.entry ≡ true) → list_all test (entries_of cells.pools) ≡ true
  all_pass test passes = ap (list_all test) pools_are ∙ from_known areas known
    where
      from_known : (some : List Area) → AllByRecursion IsKnown some → list_all test (pools_of some) ≡ true
      from_known [] each = refl
      from_known (area ∷ some) each = and_from (test area.entry) (list_all test (pools_of some)) (passes area each.0) (from_known some each.1)

  chain_is : (area : Area) → IsKnown area → chain_of sections area.entry ≡ slots area.nodes
  chain_is area is =
      ap (follow (length cells.records) (λ slot. (at sections slot).next)) (sym is.0.begins)
      ∙ follow_linked in_pool (pool_views cells.records) (λ v. v.next) (λ prev node after. refl) (length cells.records) None area.nodes is.1 is.0.linked

  chain_linked : (area : Area) → IsKnown area → is_chain sections area.entry ≡ true
  chain_linked area is =
      let P : Option ℕ → Type 0 = λ first. is_linked used (λ slot. (at sections slot).next) (λ slot. (at sections slot).prev) (length cells.records) None first ≡ true in
      subst P is.0.begins (
      linked_slots in_pool (pool_views cells.records) (λ v. v.next) (λ v. v.prev) (λ prev node after. refl) (λ prev node after. refl) used (length cells.records) None area.nodes is.1 is.0.linked
      (none_vacant None area.nodes is.0.linked)
      )

  slots_of : (some : List Area) → AllByRecursion IsKnown some → flat_map (chain_of sections) (pools_of some) ≡ slots (nodes_of some)
  slots_of [] each = refl
  slots_of (area ∷ some) each =
      ap (λ here. here ++ flat_map (chain_of sections) (pools_of some)) (chain_is area each.0)
      ∙ ap (λ more. slots area.nodes ++ more) (slots_of some each.1)
      ∙ sym (map-append (λ (node : Node). node.slot) area.nodes (nodes_of some))

  covered : (before : Option ℕ) (nodes : List Node) (from to : ℕ) → AreLinked in_pool (pool_views cells.records) before nodes → Covers from to (map block_of nodes) → covers sections from to (slots nodes) ≡ true
  covered before [] from to linked is = eq-eqb from to is
  covered before (node ∷ nodes) from to linked is =
      let place : (at sections node.slot).place ≡ from = ap (λ (v : InPool). v.place) linked.0 ∙ is.0 in
      let size : (at sections node.slot).size ≡ node.size = ap (λ (v : InPool). v.size) linked.0 in
      and_from (eqb (at sections node.slot).place from) (covers sections (from + (at sections node.slot).size) to (slots nodes)) (eq-eqb _ _ place)
      (ap (λ n. covers sections (from + n) to (slots nodes)) size ∙ covered (Some node.slot) nodes (from + node.size) to linked.1 is.3)

  merged : (before : Option ℕ) (after : Bool) (nodes : List Node) → AreLinked in_pool (pool_views cells.records) before nodes → NoFreeNeighbours after (map block_of nodes) → are_merged sections after (slots nodes) ≡ true
  merged before after [] linked is = refl
  merged before after (node ∷ nodes) linked is =
      let free : is_free (block_of node) ≡ is_free_state (at sections node.slot).state = free_node_state node.state node.slot ∙ ap is_free_state (sym (ap (λ (v : InPool). v.state) linked.0)) in
      let P : Bool → Type 0 = λ b. IsTrue (not (after && b)) in
      let Q : Bool → Type 0 = λ b. NoFreeNeighbours b (map block_of nodes) in
      and_from (not (after && is_free_state (at sections node.slot).state)) (are_merged sections (is_free_state (at sections node.slot).state) (slots nodes)) (subst P free is.0)
      (merged (Some node.slot) (is_free_state (at sections node.slot).state) nodes linked.1 (subst Q free is.1))

  -- the first node of each area is in range
  abbrev FirstsBelow : List Area → Type 0
  FirstsBelow some = (slot : ℕ) → 1 ≤ count_by (has_slot slot) (nodes_of some) → slot < length cells.records

  ordered : (from : ℕ) (some : List Area) → AllByRecursion IsKnown some → FirstsBelow some → AreGoodPools from (map pool_of some) → are_pools (length cells.records) from (pools_of some) ≡ true
  ordered from [] each below good = refl
  ordered from (area ∷ some) each below good =
      let pool = area.entry in
      let here = good.1 in
      let both : (slot : ℕ) → count_by (has_slot slot) (nodes_of (area ∷ some)) ≡ count_by (has_slot slot) area.nodes + count_by (has_slot slot) (nodes_of some) = λ slot. count-nodes (has_slot slot) area some in
      let first : pool.first < length cells.records = below pool.first (omega (arith, both pool.first, first_stands area.nodes pool.first each.0.0.begins)) in
      and_from (is_pool (length cells.records) from pool) (are_pools (length cells.records) (pool.base + pool.bytes) (pools_of some)) (
      and_from (can_be_pool pool.base pool.bytes) _ (
      and_from (eqb (pool.base % unit) 0) _ (eq-eqb _ _ here.base_in_units) (
      and_from (eqb (pool.bytes % unit) 0) _ (eq-eqb _ _ here.bytes_in_units) (
      and_from (nat_le unit pool.bytes) _ (le-leb _ _ here.least_bytes) (
      and_from (nat_le pool.bytes greatest_size) (nat_le (pool.base + pool.bytes) end_of_places) (le-leb _ _ here.most_bytes) (le-leb _ _ here.ends)
      )
      )
      )
      ) (and_from (nat_le from pool.base) (nat_lt pool.first (length cells.records)) (le-leb from pool.base good.0) (lt-ltb pool.first (length cells.records) first))
      ) (ordered (pool.base + pool.bytes) some each.1 (λ slot h. below slot (omega (arith, h, both slot))) good.2)

  -- ---- the lists

  head_is : (number : ℕ) (d : Option ℕ) → number < length cells.heads → slice_index_or cells.heads number d ≡ first_slot (nodes_in number stands.layout.lists)
  head_is number d below =
      ap (λ heads. slice_index_or heads number d) stands.represented.index.heads_are
      ∙ get_or-map first_slot stands.layout.lists number [] d (omega (arith, below, ap length stands.represented.index.heads_are, length-map stands.layout.lists first_slot))

  abbrev is_listed_here : ℕ → ℕ → Bool
  is_listed_here number slot = is_free_state (at sections slot).state && eqb (class (at sections slot).size) number

  list_is : (number : ℕ) → is_list sections number (first_slot (nodes_in number stands.layout.lists)) ≡ true
  list_is number =
      linked_slots in_list (list_views cells.records) (λ v. v.next) (λ v. v.prev) (λ prev node after. refl) (λ prev node after. refl) (is_listed_here number) (length cells.records) None (nodes_in number stands.layout.lists)
      (list_few cells stands.layout stands.represented number) (stands.represented.index.linked number)
      (none_strange cells stands number (λ slot. not (is_listed_here number slot)) (λ slot listed. ap not (and_from _ _ (ap is_free_state listed.free) (eq-eqb _ _ listed.of_class))))

  list_slots : (number : ℕ) → slots_in_list sections (first_slot (nodes_in number stands.layout.lists)) ≡ slots (nodes_in number stands.layout.lists)
  list_slots number =
      follow_linked in_list (list_views cells.records) (λ v. v.next) (λ prev node after. refl) (length cells.records) None (nodes_in number stands.layout.lists) (list_few cells stands.layout stands.represented number)
      (stands.represented.index.linked number)

  on_lists : (slot : ℕ) → (not (is_free_state (at sections slot).state) || list_any (λ first. is_among slot (slots_in_list sections first)) cells.heads) ≡ true
  on_lists slot = by (at sections slot).state refl
    where
      by : (state : State) → (at sections slot).state ≡ state → (not (is_free_state state) || list_any (λ first. is_among slot (slots_in_list sections first)) cells.heads) ≡ true
      by Vacant is = refl
      by Live is = refl
      by Free is =
          let number = class (at sections slot).size in
          let within : number < length cells.heads = omega (arith, class-lt (at sections slot).size, ap length stands.represented.index.heads_are, length-map stands.layout.lists first_slot, stands.represented.index.lists_count) in
          let some = free_stands cells stands slot is in
          let among : is_among slot (slots (nodes_in number stands.layout.lists)) ≡ true = counts_any (λ other. eqb other slot) (slots (nodes_in number stands.layout.lists))
          (omega (arith, some, count-map (λ other. eqb other slot) (λ (node : Node). node.slot) (nodes_in number stands.layout.lists))) in
          list_any_at (λ first. is_among slot (slots_in_list sections first)) cells.heads number None within (ap (λ first. is_among slot (slots_in_list sections first)) (head_is number None within) ∙ ap (is_among slot) (list_slots number) ∙ among)

  on_chains : (slot : ℕ) → (not (used slot) || list_any (λ pool. is_among slot (chain_of sections pool)) (entries_of cells.pools)) ≡ true
  on_chains slot = elim (cases_Bool (used slot)) [
    | inr apart ↦ ap (λ b. not b || list_any (λ pool. is_among slot (chain_of sections pool)) (entries_of cells.pools)) apart
    | inl here ↦
        let some = used_stands cells stands slot (uses_one (at sections slot).state here) in
        let among = counts_any (λ other. eqb other slot) (slots (nodes_of areas)) (omega (arith, some, count-map (λ other. eqb other slot) (λ (node : Node). node.slot) (nodes_of areas))) in
        or_right (not (used slot)) _ (
        sym (among_any (chain_of sections) (entries_of cells.pools) slot) ∙ ap (λ pools. is_among slot (flat_map (chain_of sections) pools)) pools_are ∙ ap (is_among slot) (slots_of areas known) ∙ among
        )
  ]

  -- ---- links

  listed_below : (number slot : ℕ) → 1 ≤ count_by (has_slot slot) (nodes_in number stands.layout.lists) → slot < length cells.records
  listed_below number slot some = slot_below cells stands slot (omega (arith, some, listed_within areas stands.layout.lists stands.represented.agree number slot))

  first_is : (nodes : List Node) → ((q : ℕ) → 1 ≤ count_by (has_slot q) nodes → q < length cells.records) → is_below (length cells.records) (first_slot nodes) ≡ true
  first_is [] below = refl
  first_is (node ∷ nodes) below = lt-ltb node.slot (length cells.records) (below node.slot (first_stands (node ∷ nodes) node.slot refl))

  head_below : (number : ℕ) (d : Option ℕ) → number < length cells.heads → is_below (length cells.records) (slice_index_or cells.heads number d) ≡ true
  head_below number d within = ap (is_below (length cells.records)) (head_is number d within) ∙ first_is (nodes_in number stands.layout.lists) (listed_below number)

  -- both neighbours in a list
  links_listed : (number slot : ℕ) → 1 ≤ count_by (has_slot slot) (nodes_in number stands.layout.lists) → (is_below (length cells.records) (at sections slot).prev_free && is_below (length cells.records) (at sections slot).next_free) ≡ true
  links_listed number slot some =
      let list = nodes_in number stands.layout.lists in
      let item_at : FirstPassing (has_slot slot) list = first_passing (has_slot slot) list some in
      let P : List Node → Type 0 = λ nodes. AreLinked in_list (list_views cells.records) None nodes in
      let linked = (linked_parts in_list (list_views cells.records) item_at.front (item_at.item ∷ item_at.behind) (subst P item_at.whole (stands.represented.index.linked number))).1 in
      let same : item_at.item.slot ≡ slot = eqb-true item_at.item.slot slot item_at.passes in
      let count : (q : ℕ) → count_by (has_slot q) list ≡ count_by (has_slot q) item_at.front + (one_if (has_slot q item_at.item) + count_by (has_slot q) item_at.behind) =
      λ q. ap (count_by (has_slot q)) item_at.whole ∙ count-plug (has_slot q) item_at.front (item_at.item ∷ item_at.behind) ∙ ap (λ n. count_by (has_slot q) item_at.front + n) (count-cons (has_slot q) item_at.item item_at.behind) in
      let says : list_views cells.records slot ≡ in_list (first_slot item_at.front) item_at.item (first_slot item_at.behind) = ap (list_views cells.records) (sym same) ∙ linked.0 in
      and_from (is_below (length cells.records) (at sections slot).prev_free) (is_below (length cells.records) (at sections slot).next_free)
      (ap (λ (v : InList). is_below (length cells.records) v.prev) says ∙ first_is item_at.front (λ q h. listed_below number q (omega (arith, h, count q))))
      (ap (λ (v : InList). is_below (length cells.records) v.next) says ∙ first_is item_at.behind (λ q h. listed_below number q (omega (arith, h, count q))))

  module _ (alone : LiveAlone cells.records) where
    links_in : (slot : ℕ) (state : State) → (at sections slot).state ≡ state → has_links_in state (length cells.records) (at sections slot) ≡ true
    links_in slot Vacant is = refl
    links_in slot Free is = links_listed (class (at sections slot).size) slot (free_stands cells stands slot is)
    links_in slot Live is =
        let none = alone slot is in
        and_from (is_none (at sections slot).prev_free) (is_none (at sections slot).next_free) (ap (λ (v : InList). is_none v.prev) none) (ap (λ (v : InList). is_none v.next) none)

    record_links : (slot : ℕ) → has_record_links (length cells.records) (at sections slot) ≡ true
    record_links slot = elim (cases_Bool (used slot)) [
      | inr apart ↦ ap (λ b. not b || links) apart
      | inl here ↦
          let found_here = found cells stands (has_slot slot) (used_stands cells stands slot (uses_one (at sections slot).state here)) in
          let same : found_here.node.slot ≡ slot = eqb-true found_here.node.slot slot found_here.passes in
          let says : pool_views cells.records slot ≡ in_pool found_here.prev found_here.node found_here.next = ap (pool_views cells.records) (sym same) ∙ found_here.says in
          let size : (at sections slot).size ≡ found_here.node.size = ap (λ (v : InPool). v.size) says in
          or_right (not (used slot)) links (
          and_from (nat_lt 0 (at sections slot).size) _ (lt-ltb 0 (at sections slot).size (omega (arith, size, found_here.whole.positive))) (
          and_from (is_below (length cells.records) (at sections slot).prev && is_below (length cells.records) (at sections slot).next) _ (
          and_from (is_below (length cells.records) (at sections slot).prev) (is_below (length cells.records) (at sections slot).next)
          (ap (λ (v : InPool). is_below (length cells.records) v.prev) says ∙ below_is (length cells.records) found_here.prev found_here.prev_below)
          (ap (λ (v : InPool). is_below (length cells.records) v.next) says ∙ below_is (length cells.records) found_here.next found_here.next_below)
          ) (links_in slot (at sections slot).state refl)
          )
          )
    ]
      where
        links : Bool
        links = nat_lt 0 (at sections slot).size && ((is_below (length cells.records) (at sections slot).prev && is_below (length cells.records) (at sections slot).next) && has_links_in (at sections slot).state (length cells.records) (at sections slot))

    pub stand_unbroken : IsUnbroken sections
    stand_unbroken =
        record {
          links = and_from (list_all (is_below (length cells.records)) cells.heads) (list_all (has_record_links (length cells.records)) cells.records)
              (list_all-from_AllPass (is_below (length cells.records)) cells.heads head_below)
              (list_all-from_AllPass (has_record_links (length cells.records)) cells.records (λ slot d within. ap (has_record_links (length cells.records)) (get_or_default cells.records slot d blank within) ∙ record_links slot));
          chains = all_pass (is_chain sections) chain_linked;
          cover = all_pass (λ pool. covers sections pool.base (pool.base + pool.bytes) (chain_of sections pool)) (λ area is.
              ap (covers sections area.entry.base (area.entry.base + area.entry.bytes)) (chain_is area is) ∙ covered None area.nodes area.entry.base (area.entry.base + area.entry.bytes) is.0.linked is.2.covered);
          on_chains = from_all_below (λ slot. not (used slot) || list_any (λ pool. is_among slot (chain_of sections pool)) (entries_of cells.pools)) (length cells.records) (λ slot within. on_chains slot);
          merged = all_pass (λ pool. are_merged sections false (chain_of sections pool)) (λ area is. ap (are_merged sections false) (chain_is area is) ∙ merged None false area.nodes is.0.linked is.2.merged);
          lists = lists_from sections 0 cells.heads (λ number within. ap (is_list sections (0 + number)) (head_is number None within) ∙ list_at_zero number);
          on_lists = from_all_below (λ slot. not (is_free_state (at sections slot).state) || list_any (λ first. is_among slot (slots_in_list sections first)) cells.heads) (length cells.records) (λ slot within. on_lists slot);
        }
      where
        list_at_zero : (number : ℕ) → is_list sections (0 + number) (first_slot (nodes_in number stands.layout.lists)) ≡ true
        list_at_zero number =
            let P : ℕ → Type 0 = λ k. is_list sections k (first_slot (nodes_in number stands.layout.lists)) ≡ true in
            let same : number ≡ 0 + number = omega arith in
            subst P same (list_is number)

  pub pools_ordered : are_pools (length cells.records) 0 (entries_of cells.pools) ≡ true
  pools_ordered = ap (are_pools (length cells.records) 0) pools_are ∙ ordered 0 areas known (slot_below cells stands) stands.good.pools_good
