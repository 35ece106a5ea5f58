-- A free block leaves its class's list, wherever it stands in it.
use Rattle.std.proofs.Common.{◌≡◌, ◌≢◌, ℕ, ◌+◌, ◌/◌, ◌%◌, ◌<◌, ◌≤◌, Bool, true, false, not, ◌&&◌, cond, eqb, List, [], ◌∷◌, length, map, get_or, set, refl, sym, ap, ◌∙◌, subst, arith, count_by, Option, Some, None, inl, inr}
use Rattle.std.proofs.lemmas.Bool.{cases_eq, eq-eqb, ne_eqb, eqb-true}
use Rattle.std.proofs.lemmas.List.{length-set, length-map, set-get_or}
use Rattle.tlsf_class.specs.Classes.{classes, class, steps}
use Rattle.tlsf_class.proofs.ClassLaws.{class-lt}
use Rattle.tlsf_store.specs.declared.records.Record.{Record}
use Rattle.tlsf_store.specs.Records.{record_at}
use Rattle.tlsf_store.specs.Cells.{Cells, with_head, with_level_word, with_step_word, head_at}
use Rattle.tlsf_heap.specs.Images.Bitmaps.{AreBitmapsOf, head_bit}
use Rattle.tlsf_heap.specs.Inner.Entries.{padded}
use Rattle.tlsf_heap.specs.Inner.Edits.{edited_in, without_bit, IsUsed, with_prev_free, with_behind, unlinked_by}
use Rattle.tlsf_heap.specs.Inner.Nodes.{Node, Area, Listed, Loose, turned, nodes_of, has_slot, nodes_in, is_listed_in, without_slot, left}
use Rattle.tlsf_heap.specs.Inner.Positions.{plug, Position, laid, filled}
use Rattle.tlsf_heap.specs.Inner.Represents.{InList, pool_view, list_view, pool_views, list_views, in_list, first_slot, AreLinked, AreChains, Agree, Represented, Represents}
use Rattle.tlsf_heap.proofs.Bits.Edits.{bits_kept, bits_cleared}
use Rattle.tlsf_heap.proofs.Counts.{one_if, count-cons, count-plug, count_but, filter_one, FirstPassing, first_passing}
use Rattle.tlsf_heap.proofs.Inner.Plugs.{count-filled}
use Rattle.tlsf_heap.proofs.Inner.Links.{first-plug, from_behind, linked_same, linked_parts, linked_plugged, linked_moved, first_stands}
use Rattle.tlsf_heap.proofs.Inner.Reads.{length-edited, edited_here, edited_apart, edited_kept}
use Rattle.tlsf_heap.proofs.Inner.Lists.{lists_apart, each_written, heads-written, head_of, count-left_same, count-left_other}
use Rattle.tlsf_heap.proofs.Inner.Chains.{uses_most, used_below, listed_within, entries-filled, slots_most}
use Rattle.tlsf_heap.proofs.Inner.Linked.{chains_turned}
use Rattle.tlsf_heap.proofs.Inner.Used.{listed_used}

pub cleared_is : (level word : ℕ) (cells : Cells) → cond (eqb word 0) (with_level_word cells (without_bit cells.level_word level)) cells ≡ record cells { level_word = cond (eqb word 0) (without_bit cells.level_word level) cells.level_word }
cleared_is level word cells = elim (eqb word 0) as (λ b. cond b (with_level_word cells (without_bit cells.level_word level)) cells ≡ record cells { level_word = cond b (without_bit cells.level_word level) cells.level_word }) [
  | true ↦ refl
  | false ↦ refl
]

module _ (cells : Cells) (count : ℕ) (position : Position) (node : Node) (nodes : List Node) (lists : List (List Node)) (taken : List ℕ) (was : Represents cells (laid count position (turned Listed node ∷ nodes) lists taken)) where
  abbrev number : ℕ
  number = class node.size

  abbrev list : List Node
  list = nodes_in (class node.size) lists

  abbrev areas : List Area
  areas = filled position (turned Listed node ∷ nodes)

  abbrev new : List Node → List Node → List Record
  new front behind = edited_in (λ r. record r { next_free = first_slot behind }) (first_slot front) (edited_in (λ r. record r { prev_free = first_slot front }) (first_slot behind) cells.records)

  slots_few : (q : ℕ) → count_by (has_slot q) (nodes_of areas) ≤ 1
  slots_few q = omega (arith, was.chains.once q, uses_most (record_at cells.records q).state)

  listed_below : (other q : ℕ) → 1 ≤ count_by (has_slot q) (nodes_in other lists) → q < length cells.records
  listed_below other q h = used_below cells.records q (omega (arith, was.chains.once q, h, listed_within areas lists was.agree other q))

  stands : 1 ≤ count_by (has_slot node.slot) list
  stands =
      let listed : Node → Bool = λ n. is_listed_in (class node.size) n && has_slot node.slot n in
      let own : one_if (listed (turned Listed node)) ≡ 1 = rw (eq-eqb (class node.size) (class node.size) refl, eq-eqb node.slot node.slot refl) refl in
      omega (arith, was.agree (class node.size) (has_slot node.slot), count-filled listed position (turned Listed node ∷ nodes), count-cons listed (turned Listed node) nodes, own)

  -- the list at the node, whose copy stands there
  module _ (front : List Node) (item : Node) (behind : List Node) (whole : list ≡ plug front (item ∷ behind)) (own : item.slot ≡ node.slot) where
    abbrev prev : Option ℕ
    prev = first_slot front

    abbrev next : Option ℕ
    next = first_slot behind

    counts : (q : ℕ) → count_by (has_slot q) front + (one_if (eqb item.slot q) + count_by (has_slot q) behind) ≡ count_by (has_slot q) list
    counts q = sym (ap (count_by (has_slot q)) whole ∙ count-plug (has_slot q) front (item ∷ behind) ∙ ap (λ n. count_by (has_slot q) front + n) (count-cons (has_slot q) item behind))

    few : (q : ℕ) → count_by (has_slot q) front + (one_if (eqb item.slot q) + count_by (has_slot q) behind) ≤ 1
    few q = omega (arith, counts q, slots_few q, listed_within areas lists was.agree (class node.size) q)

    links : AreLinked (from_behind in_list) (list_views cells.records) (Some item.slot) front × AreLinked in_list (list_views cells.records) prev (item ∷ behind)
    links = linked_parts in_list (list_views cells.records) front (item ∷ behind) (let P : List Node → Type 0 = λ ns. AreLinked in_list (list_views cells.records) None ns in subst P whole (was.index.linked (class node.size)))

    says : list_views cells.records node.slot ≡ in_list prev item next
    says = ap (list_views cells.records) (sym own) ∙ links.1.0

    -- what reads otherwise
    at_prev : (q : ℕ) → prev ≡ Some q → list_views (new front behind) q ≡ record (list_views cells.records q) { next = next }
    at_prev q is =
        let h = first_stands front q is in
        ap list_view (edited_here (λ r. record r { next_free = next }) prev (edited_in (λ r. record r { prev_free = prev }) next cells.records) q
        (omega (arith, length-edited (λ r. record r { prev_free = prev }) next cells.records, listed_below (class node.size) q (omega (arith, h, counts q)))) is
        ∙ ap (λ (r : Record). record r { next_free = next }) (edited_apart (λ r. record r { prev_free = prev }) next cells.records q (λ e. omega (arith, h, few q, first_stands behind q e))))

    at_next : (q : ℕ) → next ≡ Some q → list_views (new front behind) q ≡ record (list_views cells.records q) { prev = prev }
    at_next q is =
        let h = first_stands behind q is in
        ap list_view (edited_apart (λ r. record r { next_free = next }) prev (edited_in (λ r. record r { prev_free = prev }) next cells.records) q (λ e. omega (arith, h, few q, first_stands front q e))
        ∙ edited_here (λ r. record r { prev_free = prev }) next cells.records q (listed_below (class node.size) q (omega (arith, h, counts q))) is)

    at_other : (q : ℕ) → prev ≢ Some q → next ≢ Some q → list_views (new front behind) q ≡ list_views cells.records q
    at_other q a b = ap list_view (edited_apart (λ r. record r { next_free = next }) prev (edited_in (λ r. record r { prev_free = prev }) next cells.records) q a ∙ edited_apart (λ r. record r { prev_free = prev }) next cells.records q b)

    relinked : AreLinked in_list (list_views (new front behind)) None (plug front behind)
    relinked =
        linked_plugged in_list (list_views (new front behind)) front behind
        (linked_moved (from_behind in_list) (list_views cells.records) (list_views (new front behind)) (λ v. record v { next = next }) (Some item.slot) next (λ other after. refl) front
        (λ q. omega (arith, few q)) at_prev (λ q isnt h. at_other q isnt (λ e. omega (arith, h, few q, first_stands behind q e))) links.0)
        (linked_moved in_list (list_views cells.records) (list_views (new front behind)) (λ v. record v { prev = prev }) (Some item.slot) prev (λ other after. refl) behind
        (λ q. omega (arith, few q)) at_next (λ q isnt h. at_other q (λ e. omega (arith, h, few q, first_stands front q e)) isnt) links.1.1)

    -- the list without the node
    without_is : without_slot node.slot list ≡ plug front behind
    without_is =
        let own_too : eqb item.slot node.slot ≡ true = eq-eqb item.slot node.slot own in
        ap (without_slot node.slot) whole ∙ filter_one (has_slot node.slot) front item behind own_too (omega (arith, few node.slot, ap one_if own_too)) (omega (arith, few node.slot, ap one_if own_too))

    linked_after : (other : ℕ) → AreLinked in_list (list_views (new front behind)) None (nodes_in other (set lists (class node.size) (plug front behind)))
    linked_after =
        each_written node lists was.index.lists_count (plug front behind) (λ ns. AreLinked in_list (list_views (new front behind)) None ns) relinked
        (λ other apart. linked_same in_list (list_views cells.records) (list_views (new front behind)) None (nodes_in other lists)
        (λ q h. at_other q
        (λ e. omega (arith, h, first_stands front q e, counts q, slots_few q, lists_apart areas lists other (class node.size) q was.agree apart))
        (λ e. omega (arith, h, first_stands behind q e, counts q, slots_few q, lists_apart areas lists other (class node.size) q was.agree apart)))
        (was.index.linked other))

    agrees : Agree (filled position (turned Loose node ∷ nodes)) (left node lists)
    agrees other test =
        let listed : Node → Bool = λ n. is_listed_in other n && test n in
        let but : Node → Bool = λ n. is_listed_in other n && (not (has_slot node.slot n) && test n) in
        let most = slots_most (pool_views cells.records) position (turned Listed node ∷ nodes) taken was.chains node.slot in
        let here = count-cons (has_slot node.slot) (turned Listed node) nodes in
        let own_too = ap one_if (eq-eqb node.slot node.slot refl) in
        let loose = count-filled listed position (turned Loose node ∷ nodes) in
        let loose_here = count-cons listed (turned Loose node) nodes in
        elim (cases_eq other (class node.size)) [
          | inl same ↦
              let P : ℕ → Type 0 = λ n. count_by test (nodes_in n (left node lists)) ≡ count_by (λ m. is_listed_in n m && test m) (nodes_of (filled position (turned Loose node ∷ nodes))) in
              let in_it : Node → Bool = λ n. is_listed_in (class node.size) n && test n in
              let in_but : Node → Bool = λ n. is_listed_in (class node.size) n && (not (has_slot node.slot n) && test n) in
              let not_own : one_if (in_but (turned Listed node)) ≡ 0 = rw (eq-eqb (class node.size) (class node.size) refl, eq-eqb node.slot node.slot refl) refl in
              subst P (sym same) (omega (
                arith,
                count-left_same node lists was.index.lists_count test,
                was.agree (class node.size) (λ n. not (has_slot node.slot n) && test n),
                count-filled in_but position (turned Listed node ∷ nodes),
                count-cons in_but (turned Listed node) nodes,
                not_own,
                count-filled in_it position (turned Loose node ∷ nodes),
                count-cons in_it (turned Loose node) nodes,
                count_but (is_listed_in (class node.size)) test (has_slot node.slot) (nodes_of position.areas_before) (omega (arith, most, here, own_too)),
                count_but (is_listed_in (class node.size)) test (has_slot node.slot) position.before (omega (arith, most, here, own_too)),
                count_but (is_listed_in (class node.size)) test (has_slot node.slot) (nodes_of position.areas_behind) (omega (arith, most, here, own_too)),
                count_but (is_listed_in (class node.size)) test (has_slot node.slot) nodes (omega (arith, most, here, own_too)),
              ))
          | inr apart ↦
              let elsewhere : one_if (listed (turned Listed node)) ≡ 0 = ap (λ b. one_if (b && test (turned Listed node))) (ne_eqb (class node.size) other (λ e. apart (sym e))) in
              omega (arith, count-left_other node lists was.index.lists_count other test apart, was.agree other test, count-filled listed position (turned Listed node ∷ nodes), count-cons listed (turned Listed node) nodes, elsewhere, loose, loose_here)
        ]

    chains_after : AreChains (pool_views (new front behind)) (filled position (turned Loose node ∷ nodes)) taken
    chains_after =
        let same : pool_views (new front behind) ≡ pool_views cells.records = λ i q. (edited_kept pool_view (λ r. record r { next_free = next }) (λ r. refl) prev (edited_in (λ r. record r { prev_free = prev }) next cells.records) q
        ∙ edited_kept pool_view (λ r. record r { prev_free = prev }) (λ r. refl) next cells.records q) i in
        chains_turned (pool_views cells.records) (pool_views (new front behind)) position node nodes Listed Loose taken refl same was.chains

    -- with these heads and bitmaps
    after : (heads : List (Option ℕ)) (level_word : ℕ) (step_words : List ℕ) → heads ≡ set (map first_slot lists) (class node.size) (first_slot (plug front behind)) → length step_words ≡ length cells.step_words → AreBitmapsOf heads step_words level_word
        → Represented (new front behind) heads level_word step_words cells.pools (laid count position (turned Loose node ∷ nodes) (left node lists) taken)
    unfolding left
    after heads level_word step_words heads_are words_are bitmaps =
        let lists_are : set lists (class node.size) (plug front behind) ≡ left node lists = ap (set lists (class node.size)) (sym without_is) in
        let P : List (List Node) → Type 0 = λ ls. (other : ℕ) → AreLinked in_list (list_views (new front behind)) None (nodes_in other ls) in
        record {
          count = length-edited (λ r. record r { next_free = next }) prev (edited_in (λ r. record r { prev_free = prev }) next cells.records) ∙ length-edited (λ r. record r { prev_free = prev }) next cells.records ∙ was.count;
          entries = was.entries ∙ ap padded (sym (entries-filled position (turned Listed node ∷ nodes) (turned Loose node ∷ nodes)));
          chains = chains_after;
          index = record {
            heads_are = heads_are ∙ sym (heads-written node lists was.index.lists_count (plug front behind)) ∙ ap (map first_slot) lists_are;
            lists_count = length-set lists (class node.size) _ ∙ was.index.lists_count;
            words_count = words_are ∙ was.index.words_count;
            linked = subst P lists_are linked_after;
            bitmaps = bitmaps;
          };
          agree = agrees;
        }

    heads_count : length cells.heads ≡ classes
    heads_count = ap length was.index.heads_are ∙ length-map lists first_slot ∙ was.index.lists_count

    head_is : head_at cells.heads (class node.size) ≡ first_slot (plug front (item ∷ behind))
    head_is = ap (λ heads. head_at heads (class node.size)) was.index.heads_are ∙ head_of node lists was.index.lists_count ∙ ap first_slot whole

  -- wherever it stands
  unlinked_between : (front : List Node) (item : Node) (behind : List Node) → list ≡ plug front (item ∷ behind) → item.slot ≡ node.slot
      → Represents (with_behind (class node.size) (first_slot front) (first_slot behind) (with_prev_free (first_slot behind) (first_slot front) cells)) (laid count position (turned Loose node ∷ nodes) (left node lists) taken)
  unlinked_between (f ∷ front) item behind whole own =
      let same : first_slot (plug (f ∷ front) behind) ≡ get_or (map first_slot lists) (class node.size) None = first-plug front (f ∷ behind) (f ∷ item ∷ behind) refl ∙ sym (head_of node lists was.index.lists_count ∙ ap first_slot whole) in
      after (f ∷ front) item behind whole own cells.heads cells.level_word cells.step_words
      (was.index.heads_are ∙ sym (ap (set (map first_slot lists) (class node.size)) same ∙ set-get_or (map first_slot lists) (class node.size) None)) refl was.index.bitmaps
  unlinked_between [] item (b ∷ behind) whole own =
      after [] item (b ∷ behind) whole own (set cells.heads (class node.size) (Some b.slot)) cells.level_word cells.step_words (ap (λ heads. set heads (class node.size) (Some b.slot)) was.index.heads_are) refl
      (bits_kept cells.heads cells.step_words cells.level_word (class node.size) (heads_count [] item (b ∷ behind) whole own) was.index.words_count (class-lt node.size) was.index.bitmaps b.slot (ap head_bit (head_is [] item (b ∷ behind) whole own)))
  unlinked_between [] item [] whole own =
      let word : ℕ = without_bit (get_or cells.step_words (class node.size / steps) 0) (class node.size % steps) in
      let P : Cells → Type 0 = λ c. Represents c (laid count position (turned Loose node ∷ nodes) (left node lists) taken) in
      subst P (sym (cleared_is (class node.size / steps) word (with_step_word (with_head cells (class node.size) None) (class node.size / steps) word)))
      (after [] item [] whole own (set cells.heads (class node.size) None) (cond (eqb word 0) (without_bit cells.level_word (class node.size / steps)) cells.level_word) (set cells.step_words (class node.size / steps) word)
      (ap (λ heads. set heads (class node.size) None) was.index.heads_are) (length-set cells.step_words (class node.size / steps) word)
      (bits_cleared cells.heads cells.step_words cells.level_word (class node.size) (heads_count [] item [] whole own) was.index.words_count (class-lt node.size) was.index.bitmaps (ap head_bit (head_is [] item [] whole own))))

  pub unlinked_laid : Represents (unlinked_by (class node.size) (record_at cells.records node.slot) cells) (laid count position (turned Loose node ∷ nodes) (left node lists) taken)
  unlinked_laid =
      let at : FirstPassing (has_slot node.slot) list = first_passing (has_slot node.slot) list stands in
      let own : at.item.slot ≡ node.slot = eqb-true at.item.slot node.slot at.passes in
      let said : list_views cells.records node.slot ≡ in_list (first_slot at.front) at.item (first_slot at.behind) = says at.front at.item at.behind at.whole own in
      let P : Option ℕ → Type 0 = λ prev. Represents (with_behind (class node.size) prev (record_at cells.records node.slot).next_free (with_prev_free (record_at cells.records node.slot).next_free prev cells)) (laid count position (turned Loose node ∷ nodes) (left node lists) taken) in
      let Q : Option ℕ → Type 0 = λ next. Represents (with_behind (class node.size) (first_slot at.front) next (with_prev_free next (first_slot at.front) cells)) (laid count position (turned Loose node ∷ nodes) (left node lists) taken) in
      subst P (sym (ap (λ (v : InList). v.prev) said)) (subst Q (sym (ap (λ (v : InList). v.next) said)) (unlinked_between at.front at.item at.behind at.whole own))

  -- those beside it in its list are in use
  pub beside_used : IsUsed cells.records (record_at cells.records node.slot).prev_free × IsUsed cells.records (record_at cells.records node.slot).next_free
  beside_used =
      let at : FirstPassing (has_slot node.slot) list = first_passing (has_slot node.slot) list stands in
      let own : at.item.slot ≡ node.slot = eqb-true at.item.slot node.slot at.passes in
      let used : (others : List Node) → ((q : ℕ) → first_slot others ≡ Some q → 1 ≤ count_by (has_slot q) list) → IsUsed cells.records (first_slot others) =
      λ others h. listed_used cells (laid count position (turned Listed node ∷ nodes) lists taken) (class node.size) (first_slot others) was h in
      let P : InList → Type 0 = λ v. IsUsed cells.records v.prev × IsUsed cells.records v.next in
      subst P (sym (says at.front at.item at.behind at.whole own)) (used at.front (λ q e. omega (arith, first_stands at.front q e, counts at.front at.item at.behind at.whole own q)), used at.behind (λ q e. omega (arith, first_stands at.behind q e, counts at.front at.item at.behind at.whole own q)))
