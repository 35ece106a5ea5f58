-- What remove_pool's answers mean for the content of cells that stand.
use Rattle.std.proofs.Common.{◌≡◌, ◌≢◌, ℕ, ◌<◌, Bool, true, false, List, [], ◌∷◌, ◌++◌, length, map, find, get_or, refl, sym, ap, ◌∙◌, subst, arith, count_by, Some, Ok, Err}
use Rattle.std.specs.Prelude.{◌&&◌, All, is_none, remove}
use Rattle.std.specs.List.{AllByRecursion}
use Rattle.std.proofs.lemmas.Bool.{and_parts, eq-eqb}
use Rattle.std.proofs.lemmas.List.{length-map, map-append}
use Rattle.std.proofs.lemmas.List.Elements.{recursion_from_All}
use Rattle.tlsf_store.specs.declared.records.State.{State}
use Rattle.tlsf_store.specs.declared.records.State.TheVariants.{Vacant, Free, Live}
use Rattle.tlsf_store.specs.Records.{record_at, is_free_state}
use Rattle.tlsf_store.specs.Cells.{Cells}
use Rattle.tlsf_store.specs.declared.pools.Pool.{Pool as StoredPool}
use Rattle.tlsf_heap.specs.declared.refusal.Refusal.TheVariants.{NoPool, PoolInUse}
use Rattle.tlsf_heap.specs.Content.{Block, Pool, Content}
use Rattle.tlsf_heap.specs.Lists.{unlink}
use Rattle.tlsf_heap.specs.Good.{AreGoodPools, IsGood}
use Rattle.tlsf_heap.specs.Pools.{is_based, is_unused, without_pool, remove_found, remove_pool}
use Rattle.tlsf_heap.specs.Inner.Entries.{entries_of, padded}
use Rattle.tlsf_heap.specs.Inner.Nodes.{Loose, Listed, Node, Area, turned, left, has_slot, nodes_of, block_of, pool_of, content_by, entries_in}
use Rattle.tlsf_heap.specs.Inner.Positions.{plug, Position, filled, is_loose}
use Rattle.tlsf_heap.specs.Inner.Represents.{IsChain, pool_views, first_slot, Represents}
use Rattle.tlsf_heap.specs.Inner.At.{At, layout_at, StandsAt, at_unlisted, without_area}
use Rattle.tlsf_heap.specs.Inner.Following.{Stands, content_of}
use Rattle.tlsf_heap.proofs.Good.RemovedPool.{others, found_among, none_found, one_block, without_pool_is_good, removed}
use Rattle.tlsf_heap.proofs.Inner.Plugs.{map-plug, all_parts, count-nodes, count-nodes-plug}
use Rattle.tlsf_heap.proofs.Inner.Areas.{AreaAt, area_at, FirstNode, first_node}
use Rattle.tlsf_heap.proofs.Inner.Followed.{content_is, stood_for}
use Rattle.tlsf_heap.proofs.Inner.Live.{NodeAt, at_found, found_laid, found_stands, found_listed, node_agrees_once}
use Rattle.tlsf_heap.proofs.Inner.Located.{Located}
use Rattle.tlsf_heap.proofs.Inner.Standing.{entries_are, content_is_good}
use Rattle.tlsf_heap.proofs.Inner.PoolMoves.{pool_leaves, pool_dropped}
use Rattle.tlsf_heap.proofs.Meaning.Places.{alike, by_places, places-left}

-- a pool is found and unused, or in use
found_used : (pool : Pool ℕ) (content : Content ℕ) → is_unused pool ≡ false → remove_found (Some pool) content ≡ Err PoolInUse
found_used pool content used = rw used refl

found_unused : (pool : Pool ℕ) (content : Content ℕ) → is_unused pool ≡ true → remove_found (Some pool) content ≡ Ok (without_pool pool content)
found_unused pool content unused = rw unused refl

free_state : (state : State) → is_free_state state ≡ true → state ≡ Free
free_state Vacant is = absurd (cc)
free_state Free is = refl
free_state Live is = absurd (cc)

none_first : (nodes : List Node) → is_none (first_slot nodes) ≡ true → nodes ≡ []
none_first [] none = refl
none_first (node ∷ nodes) none = absurd (cc)

-- the entries don't hang on the nodes
entries_plug : (front behind : List Area) → entries_in (plug front behind) ≡ plug (entries_in front) (entries_in behind)
entries_plug front behind = map-plug (λ (area : Area). area.entry) front behind

-- the store's pools hang on the entries alone
pub pools_stay : (old new : Cells) (slot : ℕ) (at : At) → StandsAt slot Listed old at → StandsAt slot Loose new (at_unlisted at) → (new.pools ≡ old.pools) × (length new.records ≡ length old.records)
pools_stay old new slot at was is =
    let position : Position = at.position in
    let area : List Node → Area = λ nodes. record { entry = position.entry; nodes = plug position.before nodes } in
    let same : entries_in (filled position (turned Loose at.node ∷ at.nodes)) ≡ entries_in (filled position (at.node ∷ at.nodes)) =
    entries_plug position.areas_before (area (turned Loose at.node ∷ at.nodes) ∷ position.areas_behind) ∙ sym (entries_plug position.areas_before (area (at.node ∷ at.nodes) ∷ position.areas_behind)) in
    (is.0.entries ∙ ap padded same ∙ sym was.0.entries, is.0.count ∙ sym was.0.count)

-- the one node of an area leaves, once it is in no list
pub area_leaves : (cells : Cells) (slot : ℕ) (at : At) → StandsAt slot Loose cells (at_unlisted at) → at.position.before ≡ [] → at.nodes ≡ [] → Represents (pool_dropped slot (entries_in (plug at.position.areas_before at.position.areas_behind)) cells) (without_area at)
area_leaves cells slot at stands none_before none_behind =
    let node : Node = turned Loose at.node in
    let P : List Node → List Node → Type 0 = λ before nodes. Represents cells (layout_at (record (at_unlisted at) { position = record at.position { before = before }; nodes = nodes })) in
    let Q : ℕ → Type 0 = λ q. Represents (pool_dropped q (entries_in (plug at.position.areas_before at.position.areas_behind)) cells) (without_area at) in
    let alone : P [] [] = subst (λ nodes. P [] nodes) none_behind (subst (λ before. P before at.nodes) none_before stands.0) in
    subst Q stands.1.slot_is (pool_leaves cells at.count at.position.areas_before at.position.areas_behind (left (turned Listed at.node) at.lists) at.position.entry node at.taken alone refl)

module _ (cells : Cells) (stands : Stands cells) (base : ℕ) where
  bases_apart : (areas : List Area) → AllByRecursion (λ entry. entry.base ≢ base) (entries_in areas) → AllByRecursion (λ pool. pool.base ≢ base) (map pool_of areas)
  bases_apart [] none = tt
  bases_apart (area ∷ areas) none = (none.0, bases_apart areas none.1)

  -- where no entry begins at the base
  pub refused_none : All (λ entry. entry.base ≢ base) (entries_of cells.pools) → remove_pool base (content_of cells) ≡ Err NoPool
  refused_none none =
      let P : List StoredPool → Type 0 = λ entries. AllByRecursion (λ entry. entry.base ≢ base) entries in
      let apart = bases_apart stands.layout.areas (subst P (entries_are cells stands) (recursion_from_All (λ entry. entry.base ≢ base) (entries_of cells.pools) none)) in
      ap (λ found. remove_found found (content_of cells)) (ap (λ (content : Content ℕ). find (is_based base) content.pools) (stood_for cells stands) ∙ none_found base (map pool_of stands.layout.areas) apart)

  -- where the entry of a number does
  module _ (number : ℕ) (within : number < length (entries_of cells.pools)) (based : (d : StoredPool) → (get_or (entries_of cells.pools) number d).base ≡ base) where
    pub at : AreaAt number stands.layout.areas
    at = area_at number stands.layout.areas (omega (arith, within, ap length (entries_are cells stands), length-map stands.layout.areas (λ (area : Area). area.entry)))

    -- the entry, and the others
    pub entry_at : (d : StoredPool) → get_or (entries_of cells.pools) number d ≡ at.area.entry
    entry_at d = ap (λ entries. get_or entries number d) (entries_are cells stands) ∙ at.entry_is d

    base_is : at.area.entry.base ≡ base
    base_is = let d : StoredPool = at.area.entry in ap (λ (entry : StoredPool). entry.base) (sym (entry_at d)) ∙ based d

    pools_are : (content_of cells).pools ≡ map pool_of at.before ++ pool_of at.area ∷ map pool_of at.behind
    pools_are = ap (λ (content : Content ℕ). content.pools) (stood_for cells stands) ∙ ap (map pool_of) at.whole ∙ map-append pool_of at.before (at.area ∷ at.behind)

    found : (find (is_based base) (content_of cells).pools ≡ Some (pool_of at.area)) × (others base (content_of cells).pools ≡ map pool_of at.before ++ map pool_of at.behind)
    found =
        let P : List (Pool ℕ) → Type 0 = λ pools. AreGoodPools 0 pools in
        let Q : List (Pool ℕ) → Type 0 = λ pools. (find (is_based base) pools ≡ Some (pool_of at.area)) × (others base pools ≡ map pool_of at.before ++ map pool_of at.behind) in
        subst Q (sym pools_are) (found_among base 0 (map pool_of at.before) (map pool_of at.behind) (pool_of at.area) (subst P pools_are (content_is_good cells stands).pools_good) base_is)

    pub areas_are : stands.layout.areas ≡ plug at.front (at.area ∷ at.behind)
    areas_are = at.whole ∙ sym (at.same (at.area ∷ at.behind))

    pub first : FirstNode cells.records at.area
    first =
        let P : List Area → Type 0 = λ areas. AllByRecursion (IsChain (pool_views cells.records)) areas in
        first_node cells.records at.area (all_parts (IsChain (pool_views cells.records)) at.front (at.area ∷ at.behind) (subst P areas_are stands.represented.chains.chains)).1.0

    -- its first record tells whether the pool is one free block
    module _ (slot : ℕ) (slot_is : slot ≡ at.area.entry.first) where
      unused_is : is_unused (pool_of at.area) ≡ (is_free_state (record_at cells.records slot).state && is_none (record_at cells.records slot).next)
      unused_is = first.unused ∙ ap (λ q. is_free_state (record_at cells.records q).state && is_none (record_at cells.records q).next) (first.slot_is ∙ sym slot_is)

      pub refused_used : (is_free_state (record_at cells.records slot).state && is_none (record_at cells.records slot).next) ≡ false → remove_pool base (content_of cells) ≡ Err PoolInUse
      refused_used used = ap (λ o. remove_found o (content_of cells)) found.0 ∙ found_used (pool_of at.area) (content_of cells) (unused_is ∙ used)

      -- where it is
      module _ (unused : (is_free_state (record_at cells.records slot).state && is_none (record_at cells.records slot).next) ≡ true) where
        abbrev here : Located (has_slot slot) stands.layout.areas
        here = record {
          position = record { areas_before = at.front; entry = at.area.entry; before = []; areas_behind = at.behind };
          node = first.node;
          nodes = first.nodes;
          whole = areas_are ∙ ap (λ nodes. plug at.front (record { entry = at.area.entry; nodes = nodes } ∷ at.behind)) first.whole;
          passes = eq-eqb first.node.slot slot (first.slot_is ∙ sym slot_is);
        }

        -- the one node of the area
        abbrev pub node_there : At
        node_there = at_found cells stands (has_slot slot) here

        listed : (first.node.state ≡ Listed) × (first.node.place ≡ (record_at cells.records slot).place)
        listed = found_listed cells stands slot here (free_state (record_at cells.records slot).state (and_parts _ _ unused).0)

        pub stands_there : StandsAt slot Listed cells node_there
        stands_there = found_stands cells stands (has_slot slot) slot Listed here (first.slot_is ∙ sym slot_is) listed.0

        no_others : first.nodes ≡ []
        no_others = none_first first.nodes (ap is_none (sym first.next_is ∙ ap (λ q. (record_at cells.records q).next) (first.slot_is ∙ sym slot_is)) ∙ (and_parts _ _ unused).1)

        pub alone_there : (node_there.position.before ≡ []) × (node_there.nodes ≡ []) × (remove (entries_of cells.pools) number ≡ entries_in (plug node_there.position.areas_before node_there.position.areas_behind))
        alone_there = (refl, no_others, ap (λ entries. remove entries number) (entries_are cells stands) ∙ at.others)

        abbrev by : NodeAt first.node.place slot Listed cells stands.layout
        by = record { at = node_there; stands = stands_there; place_is = refl; layout_is = found_laid cells stands (has_slot slot) here }

        unused_pool : is_unused (pool_of at.area) ≡ true
        unused_pool = unused_is ∙ unused

        block_there : (first.node.place ≡ at.area.entry.base) × (first.node.size ≡ at.area.entry.bytes)
        block_there =
            let one = one_block (pool_of at.area) (removed base 0 (content_of cells).pools (pool_of at.area) (content_is_good cells stands).pools_good found.0).good unused_pool in
            let same : block_of first.node ∷ map block_of first.nodes ≡ one.0 ∷ [] = ap (map block_of) (sym first.whole) ∙ one.1 in
            let block : block_of first.node ≡ one.0 = cc in
            (ap (λ (b : Block ℕ). b.place) block ∙ one.3, ap (λ (b : Block ℕ). b.size) block ∙ one.4)

        content_left : content_by (without_area node_there) ≡ without_pool (pool_of at.area) (content_of cells)
        content_left =
            let node : Node = first.node in
            let lists : List (List Node) = stands.layout.lists in
            let agreed = node_agrees_once cells stands first.node.place slot Listed by in
            let records : stands.layout.count ≡ (content_of cells).records = ap (λ (content : Content ℕ). content.records) (sym (stood_for cells stands)) in
            let pools : map pool_of (plug at.front at.behind) ≡ others at.area.entry.base (content_of cells).pools =
            ap (map pool_of) (at.same at.behind) ∙ map-append pool_of at.before at.behind ∙ sym found.1 ∙ ap (λ b. others {A = ℕ} b (content_of cells).pools) (sym base_is) in
            let out : by_places (left (turned Listed node) lists) ≡ unlink at.area.entry.base at.area.entry.bytes (content_of cells).lists =
            places-left (turned Listed node) lists agreed.full (alike (turned Listed node) lists node_there.position (turned Listed node) first.nodes refl refl agreed)
            ∙ ap (λ p. unlink p node.size (by_places lists)) block_there.0
            ∙ ap (λ n. unlink at.area.entry.base n (by_places lists)) block_there.1
            ∙ ap (λ (content : Content ℕ). unlink at.area.entry.base at.area.entry.bytes content.lists) (sym (stood_for cells stands)) in
            λ i. record { records = records i; pools = pools i; lists = out i }

        pub removed_stands : (new : Cells) → Represents new (without_area node_there) → Stands new × (remove_pool base (content_of cells) ≡ Ok (content_of new))
        removed_stands new after =
            let loose : Node → Bool = λ node. is_loose node.state in
            let P : Content ℕ → Type 0 = λ x. IsGood x in
            let gone : remove_pool base (content_of cells) ≡ Ok (without_pool (pool_of at.area) (content_of cells)) =
            ap (λ o. remove_found o (content_of cells)) found.0 ∙ found_unused (pool_of at.area) (content_of cells) unused_pool in (
              record {
                layout = without_area node_there;
                represented = after;
                settled = omega (
                  arith,
                  stands.settled,
                  ap (λ areas. count_by loose (nodes_of areas)) areas_are,
                  count-nodes-plug loose at.front (at.area ∷ at.behind),
                  count-nodes loose at.area at.behind,
                  count-nodes-plug loose at.front at.behind,
                );
                none_taken = stands.none_taken;
                good = subst P (sym content_left) (without_pool_is_good base (pool_of at.area) (content_of cells) (content_is_good cells stands) found.0 unused_pool);
              },
              gone ∙ ap (λ content. Ok content) (sym content_left ∙ sym (content_is new (without_area node_there) after)),
            )
