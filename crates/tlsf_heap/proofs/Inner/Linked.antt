-- A free block that is in no list enters its class's list.
use Rattle.std.proofs.Common.{◌≡◌, ◌≢◌, ℕ, ◌≤◌, Bool, ◌&&◌, List, ◌∷◌, length, set, refl, sym, ap, ◌∙◌, subst, arith, count_by, Option, Some, None}
use Rattle.std.proofs.lemmas.List.{length-set, length-map}
use Rattle.tlsf_class.specs.Classes.{class, classes}
use Rattle.tlsf_class.proofs.ClassLaws.{class-lt}
use Rattle.tlsf_store.specs.declared.records.Record.{Record}
use Rattle.tlsf_store.specs.Records.{record_at}
use Rattle.tlsf_store.specs.Cells.{Cells, with_head, head_at}
use Rattle.tlsf_heap.specs.Images.Bitmaps.{head_bit, AreBitmapsOf}
use Rattle.tlsf_heap.specs.Inner.Entries.{padded}
use Rattle.tlsf_heap.specs.Inner.Edits.{edited_in, with_prev_free, with_free_links, with_bit_before, linked}
use Rattle.tlsf_heap.specs.Inner.Nodes.{NodeState, Node, Area, Listed, Loose, turned, nodes_of, has_slot, nodes_in, is_listed_in, entered}
use Rattle.tlsf_heap.specs.Inner.Positions.{Position, laid, filled}
use Rattle.tlsf_heap.specs.Inner.Represents.{InPool, pool_view, list_view, pool_views, list_views, record_state, in_pool, in_list, first_slot, AreLinked, AreChains, Agree, Represented, Represents}
use Rattle.tlsf_heap.proofs.Bits.Edits.{bits_set, bits_kept}
use Rattle.tlsf_heap.proofs.Counts.{count-cons}
use Rattle.tlsf_heap.proofs.Inner.Plugs.{count-filled}
use Rattle.tlsf_heap.proofs.Inner.Links.{linked_same, linked_moved, first_stands}
use Rattle.tlsf_heap.proofs.Inner.Reads.{length-edited, edited_here, edited_apart, edited_kept}
use Rattle.tlsf_heap.proofs.Inner.Lists.{lists_apart, each_written, heads-written, head_of, count-entered}
use Rattle.tlsf_heap.proofs.Inner.Chains.{chains_refilled, linked_at, uses_most, used_below, unlisted_nowhere, listed_within, entries-filled, AtNode, at_node}
use Rattle.tlsf_heap.proofs.Inner.Taken.{counted_apart}

-- a node at a position enters or leaves its list: its pool doesn't see it
pub chains_turned : (at new : ℕ → InPool) (position : Position) (node : Node) (nodes : List Node) (old node_state : NodeState) (taken : List ℕ) → record_state node_state ≡ record_state old → new ≡ at
    → AreChains at (filled position (turned old node ∷ nodes)) taken → AreChains new (filled position (turned node_state node ∷ nodes)) taken
chains_turned at new position node nodes old node_state taken alike same were =
    let P : (ℕ → InPool) → Type 0 = λ views. AreChains views (filled position (turned node_state node ∷ nodes)) taken in
    let links = linked_at at position (turned old node ∷ nodes) taken were in
    let said : at node.slot ≡ in_pool (first_slot position.before) (turned node_state node) (first_slot nodes) = links.0 ∙ ap (λ s. record { place = node.place; size = node.size; state = s; prev = first_slot position.before; next = first_slot nodes }) (sym alike) in
    subst P (sym same) (chains_refilled at at position (turned old node ∷ nodes) (turned node_state node ∷ nodes) taken taken were (λ q h. refl) refl (said, links.1)
    (λ q. omega (arith, count-cons (has_slot q) (turned old node) nodes, count-cons (has_slot q) (turned node_state node) nodes)))

module _ (cells : Cells) (count : ℕ) (position : Position) (node : Node) (nodes : List Node) (lists : List (List Node)) (taken : List ℕ) (was : Represents cells (laid count position (turned Loose node ∷ nodes) lists taken)) where
  abbrev number : ℕ
  number = class node.size

  abbrev list : List Node
  list = nodes_in (class node.size) lists

  abbrev areas : List Area
  areas = filled position (turned Loose node ∷ nodes)

  abbrev opened : Record → Record
  opened r = record r { prev_free = None; next_free = first_slot list }

  abbrev moved : Record → Record
  moved r = record r { prev_free = Some node.slot }

  abbrev one : List Record
  one = edited_in opened (Some node.slot) cells.records

  abbrev new : List Record
  new = edited_in moved (first_slot list) one

  here : AtNode cells.records position (turned Loose node) nodes taken
  here = at_node cells.records position (turned Loose node) nodes taken was.chains

  -- the slot stands in no list, and each slot in one list at most
  nowhere : (other : ℕ) → count_by (has_slot node.slot) (nodes_in other lists) ≡ 0
  nowhere other = unlisted_nowhere (pool_views cells.records) position (turned Loose node) nodes lists taken was.chains was.agree refl other

  listed_apart : (other q : ℕ) → 1 ≤ count_by (has_slot q) (nodes_in other lists) → Some node.slot ≢ Some q
  listed_apart other q h e = counted_apart (λ n. count_by (has_slot n) (nodes_in other lists)) q node.slot h (nowhere other) (let same : node.slot ≡ q = cc in sym same)

  slots_few : (q : ℕ) → count_by (has_slot q) (nodes_of areas) ≤ 1
  slots_few q = omega (arith, was.chains.once q, uses_most (record_at cells.records q).state)

  first_apart : (other q : ℕ) → other ≢ class node.size → 1 ≤ count_by (has_slot q) (nodes_in other lists) → first_slot list ≢ Some q
  first_apart other q apart h e = omega (arith, first_stands list q e, h, slots_few q, lists_apart areas lists other (class node.size) q was.agree apart)

  at_other : (other q : ℕ) → 1 ≤ count_by (has_slot q) (nodes_in other lists) → first_slot list ≢ Some q → record_at new q ≡ record_at cells.records q
  at_other other q h isnt = edited_apart moved (first_slot list) one q isnt ∙ edited_apart opened (Some node.slot) cells.records q (listed_apart other q h)

  at_slot : record_at new node.slot ≡ opened (record_at cells.records node.slot)
  at_slot =
      edited_apart moved (first_slot list) one node.slot (λ e. omega (arith, first_stands list node.slot e, nowhere (class node.size)))
      ∙ edited_here opened (Some node.slot) cells.records node.slot here.below refl

  at_first : (q : ℕ) → first_slot list ≡ Some q → record_at new q ≡ moved (record_at cells.records q)
  at_first q is =
      let h = first_stands list q is in
      let below = used_below cells.records q (omega (arith, was.chains.once q, h, listed_within areas lists was.agree (class node.size) q)) in
      edited_here moved (first_slot list) one q (omega (arith, length-edited opened (Some node.slot) cells.records, below)) is ∙ ap moved (edited_apart opened (Some node.slot) cells.records q (listed_apart (class node.size) q h))

  pools_same : pool_views new ≡ pool_views cells.records
  pools_same = λ i q. (edited_kept pool_view moved (λ r. refl) (first_slot list) one q ∙ edited_kept pool_view opened (λ r. refl) (Some node.slot) cells.records q) i

  links : (other : ℕ) → AreLinked in_list (list_views new) None (nodes_in other (set lists (class node.size) (turned Listed node ∷ list)))
  links =
      each_written node lists was.index.lists_count (turned Listed node ∷ list) (λ ns. AreLinked in_list (list_views new) None ns) (
        ap list_view at_slot,
        linked_moved in_list (list_views cells.records) (list_views new) (λ v. record v { prev = Some node.slot }) None (Some node.slot) (λ other next. refl) list
            (λ q. omega (arith, slots_few q, listed_within areas lists was.agree (class node.size) q))
            (λ q is. ap list_view (at_first q is))
            (λ q isnt h. ap list_view (at_other (class node.size) q h isnt))
            (was.index.linked (class node.size)),
      )
      (λ other apart. linked_same in_list (list_views cells.records) (list_views new) None (nodes_in other lists) (λ q h. ap list_view (at_other other q h (first_apart other q apart h))) (was.index.linked other))

  agrees : Agree (filled position (turned Listed node ∷ nodes)) (entered (turned Listed node) lists)
  agrees other test =
      let listed : Node → Bool = λ n. is_listed_in other n && test n in
      omega (
        arith,
        count-entered (turned Listed node) lists was.index.lists_count other test,
        was.agree other test,
        count-filled listed position (turned Loose node ∷ nodes),
        count-filled listed position (turned Listed node ∷ nodes),
        count-cons listed (turned Loose node) nodes,
        count-cons listed (turned Listed node) nodes,
      )

  -- the cells, where this is the first of the list
  abbrev after : Option ℕ → Cells
  after first = with_bit_before first (class node.size) (with_head (with_prev_free first (Some node.slot) (with_free_links node.slot None first cells)) (class node.size) (Some node.slot))

  -- with these bitmaps
  laid_with : (level_word : ℕ) (step_words : List ℕ) → length step_words ≡ length cells.step_words → AreBitmapsOf (set cells.heads (class node.size) (Some node.slot)) step_words level_word
      → Represented new (set cells.heads (class node.size) (Some node.slot)) level_word step_words cells.pools (laid count position (turned Listed node ∷ nodes) (entered (turned Listed node) lists) taken)
  unfolding entered
  laid_with level_word step_words words_are bitmaps = record {
    count = length-edited moved (first_slot list) one ∙ length-edited opened (Some node.slot) cells.records ∙ was.count;
    entries = was.entries ∙ ap padded (sym (entries-filled position (turned Loose node ∷ nodes) (turned Listed node ∷ nodes)));
    chains = chains_turned (pool_views cells.records) (pool_views new) position node nodes Loose Listed taken refl pools_same was.chains;
    index = record {
      heads_are = ap (λ heads. set heads (class node.size) (Some node.slot)) was.index.heads_are ∙ sym (heads-written node lists was.index.lists_count (turned Listed node ∷ list));
      lists_count = length-set lists (class node.size) (turned Listed node ∷ list) ∙ was.index.lists_count;
      words_count = words_are ∙ was.index.words_count;
      linked = links;
      bitmaps = bitmaps;
    };
    agree = agrees;
  }

  heads_count : length cells.heads ≡ classes
  heads_count = ap length was.index.heads_are ∙ length-map lists first_slot ∙ was.index.lists_count

  head_is : head_at cells.heads (class node.size) ≡ first_slot list
  head_is = ap (λ heads. head_at heads (class node.size)) was.index.heads_are ∙ head_of node lists was.index.lists_count

  linked_before : (first : Option ℕ) → head_at cells.heads (class node.size) ≡ first → first_slot list ≡ first → Represents (after first) (laid count position (turned Listed node ∷ nodes) (entered (turned Listed node) lists) taken)
  linked_before None head is =
      let P : Option ℕ → Type 0 = λ o. Represented (edited_in moved o (edited_in (λ r. record r { prev_free = None; next_free = o }) (Some node.slot) cells.records)) (set cells.heads (class node.size) (Some node.slot)) (after None).level_word (after None).step_words cells.pools (laid count position (turned Listed node ∷ nodes) (entered (turned Listed node) lists) taken) in
      subst P is (laid_with (after None).level_word (after None).step_words (length-set cells.step_words _ _)
      (bits_set cells.heads cells.step_words cells.level_word (class node.size) heads_count was.index.words_count (class-lt node.size) was.index.bitmaps node.slot))
  linked_before (Some other) head is =
      let P : Option ℕ → Type 0 = λ o. Represented (edited_in moved o (edited_in (λ r. record r { prev_free = None; next_free = o }) (Some node.slot) cells.records)) (set cells.heads (class node.size) (Some node.slot)) cells.level_word cells.step_words cells.pools (laid count position (turned Listed node ∷ nodes) (entered (turned Listed node) lists) taken) in
      subst P is (laid_with cells.level_word cells.step_words refl
      (bits_kept cells.heads cells.step_words cells.level_word (class node.size) heads_count was.index.words_count (class-lt node.size) was.index.bitmaps node.slot (ap head_bit head)))

  pub linked_laid : Represents (linked (class node.size) node.slot cells) (laid count position (turned Listed node ∷ nodes) (entered (turned Listed node) lists) taken)
  linked_laid = linked_before (head_at cells.heads (class node.size)) refl (sym head_is)
