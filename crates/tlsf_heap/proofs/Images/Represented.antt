-- Cells whose sections break no rule represent the layout that they have by their links.
use Rattle.std.proofs.Common.{◌≡◌, ℕ, ◌+◌, ◌≤◌, ◌%◌, Bool, true, false, cond, ◌&&◌, eqb, List, [], ◌∷◌, length, map, refl, sym, ap, ◌∙◌, subst, arith, count_by, filter, Option, None, inl, inr}
use Rattle.std.specs.List.{flat_map}
use Rattle.std.proofs.lemmas.Bool.{cases_Bool, cases_lt, eqb-true, and_parts, and_right}
use Rattle.std.proofs.lemmas.List.{get_or-map, get_or_past, length-map}
use Rattle.std.proofs.lemmas.List.Sums.{length-filter}
use Rattle.tlsf_class.specs.Classes.{class, unit, classes, levels}
use Rattle.tlsf_store.specs.declared.records.State.{State}
use Rattle.tlsf_store.specs.declared.records.State.TheVariants.{Vacant, Free, Live}
use Rattle.tlsf_store.specs.Cells.{Cells, head_at, most_pools}
use Rattle.tlsf_store.specs.Records.{is_free_state, record_at}
use Rattle.tlsf_heap.specs.Images.Image.{Sections}
use Rattle.tlsf_heap.specs.Images.Rules.{are_pools, first_unmet, rules_of_sections, at, is_used, chain_of, are_lists, slots_in_list}
use Rattle.tlsf_heap.proofs.Images.LinkLemmas.{follow_none}
use Rattle.tlsf_heap.proofs.Images.Counting.{one_if, same_length}
use Rattle.tlsf_heap.specs.Good.{times}
use Rattle.tlsf_heap.proofs.Images.Totals.{is_block, used_below, is_listed_slot, first_list, other_lists}
use Rattle.tlsf_heap.proofs.Images.Once.{linked_ends, on_chain_once, list_of_class, in_list_once}
use Rattle.tlsf_heap.proofs.Images.UnbrokenRules.{IsUnbroken, unbroken}
use Rattle.tlsf_heap.specs.Images.Described.{sections_of}
use Rattle.tlsf_heap.specs.Images.Bitmaps.{AreBitmapsOf}
use Rattle.tlsf_heap.specs.Inner.Entries.{padded, entries_of}
use Rattle.tlsf_heap.specs.Inner.Nodes.{Node, nodes_of, nodes_in, has_slot, is_listed_in}
use Rattle.tlsf_heap.specs.Inner.Represents.{in_list, list_views, first_slot, AreLinked, uses_in, Represents}
use Rattle.tlsf_heap.proofs.Counts.{count-cons, count-filter, count_same, count-map}
use Rattle.tlsf_heap.proofs.Images.ReadNodes.{node_at, layout_of, node_state_listed, first_followed, linked_followed, count_slots, nodes_of_areas, chains_are, entries_are}
use Rattle.tlsf_heap.proofs.Images.ChainLemmas.{free_is_used}

-- their sections break no rule, and the bitmaps are those of the heads
pub record AreImaged (cells : Cells) : Type 0 where
  pub unbroken : first_unmet (rules_of_sections (sections_of cells)) ≡ None
  pub ordered : are_pools (length cells.records) 0 (entries_of cells.pools) ≡ true
  pub packed : cells.pools ≡ padded (entries_of cells.pools)
  pub pools_count : length cells.pools ≡ most_pools
  pub heads_count : length cells.heads ≡ classes
  pub words_count : length cells.step_words ≡ levels
  pub bitmaps : AreBitmapsOf cells.heads cells.step_words cells.level_word
  pub in_units : (slot : ℕ) → (record_at cells.records slot).size % unit ≡ 0

-- how often a slot stands among those that pass a test
times-filter : (test : ℕ → Bool) (slot : ℕ) (slots : List ℕ) → times slot (filter test slots) ≡ cond (test slot) (times slot slots) 0
times-filter test slot slots = count-filter (λ other. eqb other slot) test slots ∙ count_same (λ other. test other && eqb other slot) (λ other. test slot && eqb other slot) same slots ∙ by (test slot)
  where
    same : (other : ℕ) → (test other && eqb other slot) ≡ (test slot && eqb other slot)
    same other = elim (cases_Bool (eqb other slot)) [
      | inl here ↦ ap (λ s. test s && eqb other slot) (eqb-true other slot here)
      | inr apart ↦ and_right (test other) (eqb other slot) apart ∙ sym (and_right (test slot) (eqb other slot) apart)
    ]

    none : (xs : List ℕ) → count_by (λ other. false) xs ≡ 0
    none [] = refl
    none (x ∷ xs) = omega (arith, count-cons (λ other. false) x xs, none xs)

    by : (b : Bool) → count_by (λ other. b && eqb other slot) slots ≡ cond b (times slot slots) 0
    by true = refl
    by false = none slots

uses_one : (state : State) → one_if (is_used state) ≡ uses_in state
uses_one Vacant = refl
uses_one Free = refl
uses_one Live = refl

-- a slot that passes, counted where it is listed, or where it is a block
one_each : (passes listed block : Bool) → (listed ≡ true → block ≡ true) → cond passes (one_if listed) 0 ≡ cond (listed && passes) (one_if block) 0
one_each true true block used = sym (ap one_if (used refl))
one_each true false block used = refl
one_each false true block used = refl
one_each false false block used = refl

module _ (cells : Cells) where
  abbrev sections : Sections
  sections = sections_of cells

  abbrev node : ℕ → Node
  node slot = node_at cells.records slot

  abbrev listed : ℕ → List ℕ
  listed number = slots_in_list sections (head_at cells.heads number)

  abbrev chained : List ℕ
  chained = flat_map (chain_of sections) (entries_of cells.pools)

  -- the nodes of a class's list
  pub list_is : (number : ℕ) → nodes_in number (layout_of cells).lists ≡ map node (listed number)
  list_is number = elim (cases_lt number (length cells.heads)) [
    | inl below ↦ get_or-map (λ first. map node (slots_in_list sections first)) cells.heads number None [] below
    | inr past ↦
        get_or_past (map (λ first. map node (slots_in_list sections first)) cells.heads) number [] (omega (arith, past, length-map cells.heads (λ first. map node (slots_in_list sections first))))
        ∙ sym (ap (λ first. map node (slots_in_list sections first)) (get_or_past cells.heads number None past) ∙ ap (map node) (follow_none (length cells.records) (λ slot. (at sections slot).next_free)))
  ]

  heads_from : (from : ℕ) (heads : List (Option ℕ)) → are_lists sections from heads ≡ true → heads ≡ map first_slot (map (λ first. map node (slots_in_list sections first)) heads)
  heads_from from [] lists = refl
  heads_from from (first ∷ heads) lists =
      let ends = linked_ends (is_listed_slot sections from) (λ slot. (at sections slot).next_free) (λ slot. (at sections slot).prev_free) (length cells.records) None first (first_list sections from first heads lists) in
      let here = first_followed cells.records (length cells.records) (λ slot. (at sections slot).next_free) first ends in
      ap (λ o. o ∷ heads) (sym here) ∙ ap (λ more. first_slot (map node (slots_in_list sections first)) ∷ more) (heads_from (from + 1) heads (other_lists sections from first heads lists))

  listed_used : (number slot : ℕ) → is_listed_slot sections number slot ≡ true → is_block sections slot ≡ true
  listed_used number slot listed = free_is_used (at sections slot).state (and_parts (is_free_state (at sections slot).state) (eqb (class (at sections slot).size) number) listed).0

  module _ (imaged : AreImaged cells) where
    rules : IsUnbroken sections
    rules = unbroken sections imaged.unbroken

    on_chain : (slot : ℕ) → times slot chained ≡ one_if (is_block sections slot)
    on_chain slot = on_chain_once sections rules.links rules.chains rules.cover imaged.ordered rules.on_chains slot

    in_list_of : (number slot : ℕ) → times slot (listed number) ≡ one_if (is_listed_slot sections number slot)
    in_list_of number slot = in_list_once sections rules.lists rules.on_lists number slot

    pub once : (slot : ℕ) → count_by (has_slot slot) (nodes_of (layout_of cells).areas) + 0 ≡ uses_in (at sections slot).state
    once slot =
        omega (
          arith,
          ap (count_by (has_slot slot)) (nodes_of_areas sections (entries_of cells.pools)),
          count_slots cells.records slot chained,
          on_chain slot,
          uses_one (at sections slot).state,
        )

    pub agreed : (number : ℕ) (test : Node → Bool) → count_by test (nodes_in number (layout_of cells).lists) ≡ count_by (λ n. is_listed_in number n && test n) (nodes_of (layout_of cells).areas)
    agreed number test =
        let both : Node → Bool = λ n. is_listed_in number n && test n in
        let in_list_passes : ℕ → Bool = λ slot. test (node slot) in
        let on_chain_passes : ℕ → Bool = λ slot. both (node slot) in
        let left : (slot : ℕ) → times slot (filter in_list_passes (listed number)) ≡ cond (in_list_passes slot) (one_if (is_listed_slot sections number slot)) 0 =
        λ slot. times-filter in_list_passes slot (listed number) ∙ ap (λ n. cond (in_list_passes slot) n 0) (in_list_of number slot) in
        let right : (slot : ℕ) → times slot (filter on_chain_passes chained) ≡ cond (is_listed_slot sections number slot && in_list_passes slot) (one_if (is_block sections slot)) 0 =
        λ slot. times-filter on_chain_passes slot chained
        ∙ ap (λ n. cond (on_chain_passes slot) n 0) (on_chain slot)
        ∙ ap (λ b. cond ((b && eqb (class (at sections slot).size) number) && in_list_passes slot) (one_if (is_block sections slot)) 0) (node_state_listed (at sections slot).state) in
        let none : (slot : ℕ) → length cells.records ≤ slot → times slot (filter in_list_passes (listed number)) ≡ 0 = λ slot past. left slot ∙ nothing number slot (in_list_passes slot) past in
        ap (count_by test) (list_is number)
        ∙ count-map test node (listed number)
        ∙ sym (length-filter in_list_passes (listed number))
        ∙ same_length (filter in_list_passes (listed number)) (filter on_chain_passes chained) (length cells.records)
        (λ slot. left slot ∙ one_each (in_list_passes slot) (is_listed_slot sections number slot) (is_block sections slot) (listed_used number slot) ∙ sym (right slot)) none
        ∙ length-filter on_chain_passes chained
        ∙ sym (count-map both node chained)
        ∙ sym (ap (count_by both) (nodes_of_areas sections (entries_of cells.pools)))
      where
        nothing : (number slot : ℕ) (passes : Bool) → length cells.records ≤ slot → cond passes (one_if (is_listed_slot sections number slot)) 0 ≡ 0
        nothing number slot false past = refl
        nothing number slot true past = elim (cases_Bool (is_listed_slot sections number slot)) [
          | inl here ↦ absurd (omega (arith, past, used_below sections slot (listed_used number slot here)))
          | inr apart ↦ ap one_if apart
        ]

    pub represents : Represents cells (layout_of cells)
    represents = record {
      count = refl;
      entries = imaged.packed ∙ ap padded (sym (entries_are sections cells.pools));
      chains = record { chains = chains_are sections (entries_of cells.pools) rules.chains; once = once };
      index = record {
        heads_are = heads_from 0 cells.heads rules.lists;
        lists_count = length-map cells.heads (λ first. map node (slots_in_list sections first)) ∙ imaged.heads_count;
        words_count = imaged.words_count;
        linked = λ number.
            let P : List Node → Type 0 = λ nodes. AreLinked in_list (list_views cells.records) None nodes in
            subst P (sym (list_is number)) (
            linked_followed cells.records in_list (list_views cells.records) (is_listed_slot sections number) (λ slot. (at sections slot).next_free) (λ slot. (at sections slot).prev_free) (λ slot is. refl) (length cells.records) None
            (head_at cells.heads number) (list_of_class sections rules.lists number)
            );
        bitmaps = imaged.bitmaps;
      };
      agree = agreed;
    }
