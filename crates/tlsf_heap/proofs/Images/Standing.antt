-- Cells whose sections break no rule stand.
use Rattle.std.proofs.Common.{◌≡◌, ℕ, ◌+◌, ◌-◌, ◌≤◌, ◌%◌, Bool, true, false, not, ◌&&◌, eqb, List, [], ◌∷◌, length, map, refl, sym, ap, ◌∙◌, subst, arith, count_by, replicate, Option, Some, None}
use Rattle.std.specs.Prelude.{IsTrue, nat_le, nat_lt, is_none}
use Rattle.std.specs.List.{list_all, flat_map}
use Rattle.std.proofs.lemmas.Bool.{and_parts, eqb-true, leb-true}
use Rattle.std.proofs.lemmas.List.{get_or-map, length-map, length-append}
use Rattle.tlsf_class.specs.Classes.{unit, class, greatest_size}
use Rattle.tlsf_store.specs.declared.records.State.{State}
use Rattle.tlsf_store.specs.declared.records.State.TheVariants.{Vacant, Free, Live}
use Rattle.tlsf_store.specs.declared.pools.Pool.{Pool as StoredPool}
use Rattle.tlsf_store.specs.Cells.{Cells, most_pools}
use Rattle.tlsf_heap.specs.Images.Image.{Sections}
use Rattle.tlsf_store.specs.Ranges.{end_of_places, can_be_pool}
use Rattle.tlsf_store.specs.Records.{is_free_state}
use Rattle.tlsf_heap.specs.Images.Rules.{at, is_pool, are_pools, is_chain, chain_of, covers, are_merged, slots_in_list}
use Rattle.tlsf_heap.proofs.Images.Totals.{all_first, all_rest, is_block, has_bytes, chain_used, begins_at, covered_rest, covers_pool}
use Rattle.tlsf_heap.proofs.Images.UnbrokenRules.{IsUnbroken, unbroken}
use Rattle.tlsf_heap.specs.Images.Described.{sections_of}
use Rattle.tlsf_heap.specs.Content.{blocks_of}
use Rattle.tlsf_heap.specs.Good.{Covers, NoFreeNeighbours, AreGoodPools, times, is_listed, AreLists, IsGood}
use Rattle.tlsf_heap.specs.Inner.Entries.{entries_of}
use Rattle.tlsf_heap.specs.Inner.Nodes.{Node, Area, block_of, pool_of, owner_of, content_by, nodes_of, nodes_in, has_place, is_listed_state, is_listed_in}
use Rattle.tlsf_heap.specs.Inner.Positions.{is_loose}
use Rattle.tlsf_heap.specs.Inner.Following.{Stands}
use Rattle.tlsf_heap.proofs.Counts.{one_if, count-cons, count-map, count_same}
use Rattle.tlsf_heap.proofs.Inner.Sums.{all_records}
use Rattle.tlsf_heap.proofs.Meaning.Places.{blocks_of_areas}
use Rattle.tlsf_heap.proofs.Images.ReadNodes.{node_state_in, node_at, area_from, layout_of, node_state_free, nodes_of_areas, entries_are}
use Rattle.tlsf_heap.proofs.Images.Represented.{AreImaged, represents, agreed}

module _ (cells : Cells) (imaged : AreImaged cells) where
  abbrev sections : Sections
  sections = sections_of cells

  abbrev node : ℕ → Node
  node slot = node_at cells.records slot

  rules : IsUnbroken sections
  rules = unbroken sections imaged.unbroken

  covered : (slots : List ℕ) (from to : ℕ) → list_all (is_block sections) slots ≡ true → covers sections from to slots ≡ true → Covers from to (map block_of (map node slots))
  covered [] from to used is = eqb-true from to is
  covered (slot ∷ slots) from to used is = (
    begins_at sections from to slot slots is,
    has_bytes sections rules.links slot (all_first (is_block sections) slot slots used),
    imaged.in_units slot,
    covered slots (from + (at sections slot).size) to (all_rest (is_block sections) slot slots used) (covered_rest sections from to slot slots is),
  )

  merged : (after : Bool) (slots : List ℕ) → are_merged sections after slots ≡ true → NoFreeNeighbours after (map block_of (map node slots))
  merged after [] is = tt
  merged after (slot ∷ slots) is =
      let both = and_parts (not (after && is_free_state (at sections slot).state)) (are_merged sections (is_free_state (at sections slot).state) slots) is in
      let free = sym (node_state_free (at sections slot).state slot) in
      let P : Bool → Type 0 = λ b. IsTrue (not (after && b)) in
      let Q : Bool → Type 0 = λ b. NoFreeNeighbours b (map block_of (map node slots)) in
      (subst P free both.0, subst Q free (merged (is_free_state (at sections slot).state) slots both.1))

  abbrev is_merged_pool : StoredPool → Bool
  is_merged_pool pool = are_merged sections false (chain_of sections pool)

  good_pools : (count from : ℕ) (pools : List StoredPool) → are_pools count from pools ≡ true → list_all (is_chain sections) pools ≡ true → list_all (covers_pool sections) pools ≡ true → list_all is_merged_pool pools ≡ true
      → AreGoodPools from (map pool_of (map (area_from sections) pools))
  good_pools count from [] ordered chains cover merges = tt
  good_pools count from (pool ∷ pools) ordered chains cover merges =
      let both = and_parts (is_pool count from pool) (are_pools count (pool.base + pool.bytes) pools) ordered in
      let here = and_parts (can_be_pool pool.base pool.bytes) _ both.0 in
      let base = and_parts (eqb (pool.base % unit) 0) _ here.0 in
      let bytes = and_parts (eqb (pool.bytes % unit) 0) _ base.1 in
      let least = and_parts (nat_le unit pool.bytes) _ bytes.1 in
      let most = and_parts (nat_le pool.bytes greatest_size) (nat_le (pool.base + pool.bytes) end_of_places) least.1 in (
        leb-true from pool.base (and_parts (nat_le from pool.base) (nat_lt pool.first count) here.1).0,
        record {
          base_in_units = eqb-true (pool.base % unit) 0 base.0;
          bytes_in_units = eqb-true (pool.bytes % unit) 0 bytes.0;
          least_bytes = leb-true unit pool.bytes least.0;
          most_bytes = leb-true pool.bytes greatest_size most.0;
          ends = leb-true (pool.base + pool.bytes) end_of_places most.1;
          covered = covered (chain_of sections pool) pool.base (pool.base + pool.bytes) (chain_used sections pool (all_first (is_chain sections) pool pools chains)) (all_first (covers_pool sections) pool pools cover);
          merged = merged false (chain_of sections pool) (all_first is_merged_pool pool pools merges);
        },
        good_pools count (pool.base + pool.bytes) pools both.1 (all_rest (is_chain sections) pool pools chains) (all_rest (covers_pool sections) pool pools cover) (all_rest is_merged_pool pool pools merges),
      )

  -- a free block of a class at a place, by its node and by its block
  alike : (state : State) (slot place size : ℕ) (of_class here : Bool) → (is_none (owner_of (node_state_in state) slot) && (here && of_class)) ≡ ((is_listed_state (node_state_in state) && of_class) && here)
  alike Vacant slot place size of_class here = refl
  alike Live slot place size of_class here = refl
  alike Free slot place size true true = refl
  alike Free slot place size true false = refl
  alike Free slot place size false true = refl
  alike Free slot place size false false = refl

  listed : AreLists (blocks_of (map pool_of (layout_of cells).areas)) (map (map (λ n. n.place)) (layout_of cells).lists)
  listed number place below =
      let layout = layout_of cells in
      let chained = flat_map (chain_of sections) (entries_of cells.pools) in
      let in_list : Node → Bool = λ n. is_listed_in number n && has_place place n in
      let in_pools : Node → Bool = λ n. is_listed number place (block_of n) in
      ap (times place) (get_or-map (map (λ (n : Node). n.place)) layout.lists number [] [] (omega (arith, below, imaged.heads_count, length-map cells.heads (λ first. map node (slots_in_list sections first)))))
      ∙ count-map (λ other. eqb other place) (λ (n : Node). n.place) (nodes_in number layout.lists)
      ∙ agreed cells imaged number (has_place place)
      ∙ ap (count_by in_list) (nodes_of_areas sections (entries_of cells.pools))
      ∙ count-map in_list node chained
      ∙ sym (count_same (λ slot. in_pools (node slot)) (λ slot. in_list (node slot)) (λ slot. let r = at sections slot in alike r.state slot r.place r.size (eqb (class r.size) number) (eqb r.place place)) chained)
      ∙ sym (count-map in_pools node chained)
      ∙ sym (ap (count_by in_pools) (nodes_of_areas sections (entries_of cells.pools)))
      ∙ sym (count-map (is_listed number place) block_of (nodes_of layout.areas))
      ∙ sym (ap (count_by (is_listed number place)) (blocks_of_areas layout.areas))

  few_pools : length (entries_of cells.pools) ≤ most_pools
  few_pools =
      let entries = entries_of cells.pools in
      omega (
        arith,
        imaged.pools_count,
        ap length imaged.packed,
        length-append (map (λ (e : StoredPool). Some e) entries) (replicate (most_pools - length entries) None),
        length-map {A = StoredPool} {B = Option StoredPool} entries (λ e. Some e),
      )

  good : IsGood (content_by (layout_of cells))
  good =
      let layout = layout_of cells in
      record {
        pools_few = omega (arith, few_pools, length-map layout.areas pool_of, ap length (entries_are sections cells.pools), length-map layout.areas (λ (area : Area). area.entry));
        pools_good = good_pools (length cells.records) 0 (entries_of cells.pools) imaged.ordered rules.chains rules.cover rules.merged;
        lists_count = length-map layout.lists (map (λ (n : Node). n.place)) ∙ length-map cells.heads (λ first. map node (slots_in_list sections first)) ∙ imaged.heads_count;
        listed = listed;
        blocks_few = omega (arith, ap length (blocks_of_areas layout.areas), length-map (nodes_of layout.areas) block_of, all_records cells layout (represents cells imaged));
      }

  never_loose : (state : State) → is_loose (node_state_in state) ≡ false
  never_loose Vacant = refl
  never_loose Free = refl
  never_loose Live = refl

  none_loose : (slots : List ℕ) → count_by (λ n. is_loose n.state) (map node slots) ≡ 0
  none_loose [] = refl
  none_loose (slot ∷ slots) = omega (arith, count-cons (λ (n : Node). is_loose n.state) (node slot) (map node slots), ap one_if (never_loose (at sections slot).state), none_loose slots)

  pub imaged_stand : Stands cells
  imaged_stand = record {
    layout = layout_of cells;
    represented = represents cells imaged;
    settled = ap (count_by (λ n. is_loose n.state)) (nodes_of_areas sections (entries_of cells.pools)) ∙ none_loose (flat_map (chain_of sections) (entries_of cells.pools));
    none_taken = refl;
    good = good;
  }
