-- A store can keep what an image describes that breaks no rule.
use Rattle.std.proofs.Common.{◌≡◌, ℕ, ◌+◌, ◌%◌, ◌<◌, eqb, Bool, true, false, not, ◌&&◌, ◌||◌, List, [], ◌∷◌, length, refl, sym, ap, ◌∙◌, subst, arith, inl, inr, Option, Some, None}
use Rattle.std.specs.Prelude.{nat_lt, nat_le, ◌==◌, is_none, if◌then◌else◌}
use Rattle.std.specs.List.{list_all, list_any}
use Rattle.std.proofs.lemmas.Bool.{and_parts, and_from, or_cases, cases_Bool, both_ways, eqb-true}
use Rattle.std.proofs.lemmas.List.Folds.{Any-from_list_any, list_all_at}
use Rattle.std.proofs.lemmas.List.Sums.{AllPass-from_list_all}
use Rattle.tlsf_class.specs.Classes.{unit, classes}
use Rattle.tlsf_store.specs.declared.records.State.{State}
use Rattle.tlsf_store.specs.declared.records.State.TheVariants.{Vacant, Free, Live}
use Rattle.tlsf_store.specs.declared.records.Record.{Record}
use Rattle.tlsf_store.specs.declared.pools.Pool.{Pool as StoredPool}
use Rattle.tlsf_store.specs.Records.{blank, IsBelow}
use Rattle.tlsf_store.specs.Cells.{head_at}
use Rattle.tlsf_store.specs.Ranges.{can_be_pool}
use Rattle.tlsf_heap.specs.Images.Image.{Sections, sections_in, record_in, size_word}
use Rattle.tlsf_heap.specs.Images.Rules.{is_pool, are_pools, at, is_used, is_below, has_links_in, covers, is_among, chain_of, has_links, has_cover, has_all_on_chains, first_broken}
use Rattle.tlsf_heap.proofs.Images.ChainLemmas.{below, record_links}
use Rattle.tlsf_heap.proofs.Images.Totals.{all_below, not_or}
use Rattle.tlsf_heap.proofs.Images.ImageLemmas.{record_read, records_count, heads_count}
use Rattle.tlsf_heap.proofs.Images.UnbrokenRules.{unbroken}
use Rattle.tlsf_heap.specs.Inner.Loading.{CanBeStored}
use Rattle.tlsf_heap.proofs.Images.Loaded.{in_units, sections_hold, ordered}
use Rattle.tlsf_heap.specs.Inner.Entries.{entries_of}

pool_bases : (count from : ℕ) (pools : List StoredPool) → are_pools count from pools ≡ true → list_all (λ pool. pool.base % unit == 0) pools ≡ true
pool_bases count from [] e = refl
pool_bases count from (pool ∷ pools) e =
    let both = and_parts (is_pool count from pool) (are_pools count (pool.base + pool.bytes) pools) e in
    let range : can_be_pool pool.base pool.bytes ≡ true = (and_parts (can_be_pool pool.base pool.bytes) (nat_le from pool.base && nat_lt pool.first count) both.0).0 in
    and_from (pool.base % unit == 0) (list_all (λ pool. pool.base % unit == 0) pools) (and_parts (pool.base % unit == 0) _ range).0 (pool_bases count (pool.base + pool.bytes) pools both.1)

no_link : (count : ℕ) (link : Option ℕ) → is_none link ≡ true → IsBelow count link
no_link count None e = tt
no_link count (Some slot) e = absurd (cc)

free_links : (state : State) (count : ℕ) (r : Record) → is_used state ≡ true → has_links_in state count r ≡ true → IsBelow count r.prev_free × IsBelow count r.next_free
free_links Vacant count r used linked = absurd (cc)
free_links Free count r used linked =
    let both = and_parts (is_below count r.prev_free) (is_below count r.next_free) linked in
    (below count r.prev_free both.0, below count r.next_free both.1)
free_links Live count r used linked =
    let both = and_parts (is_none r.prev_free) (is_none r.next_free) linked in
    (no_link count r.prev_free both.0, no_link count r.next_free both.1)

-- a head is none, or one of the records
head_below : (sections : Sections) → has_links sections ≡ true → (number : ℕ) → number < length sections.heads → IsBelow (length sections.records) (head_at sections.heads number)
head_below sections linked number within =
    elim (cases_Bool (is_below (length sections.records) (head_at sections.heads number))) [
      | inl e ↦ below (length sections.records) (head_at sections.heads number) e
      | inr e ↦ absurd (both_ways _ (list_all_at (is_below (length sections.records)) sections.heads number None within e) (and_parts _ _ linked).0)
    ]

module _ (sections : Sections) (in_units : (slot : ℕ) → (at sections slot).size % unit ≡ 0) where
  places_in_units : (from to : ℕ) (slots : List ℕ) (slot : ℕ) → covers sections from to slots ≡ true → is_among slot slots ≡ true → from % unit ≡ 0 → (at sections slot).place % unit ≡ 0
  places_in_units from to [] slot e among whole = absurd (cc)
  places_in_units from to (first ∷ slots) slot e among whole =
      let both = and_parts ((at sections first).place == from) (covers sections (from + (at sections first).size) to slots) e in
      let place : (at sections first).place ≡ from = eqb-true (at sections first).place from both.0 in
      elim (or_cases _ _ among) [
        | inl same ↦ subst (λ s. (at sections s).place % unit ≡ 0) (eqb-true first slot same) (ap (λ p. p % unit) place ∙ whole)
        | inr later ↦ places_in_units (from + (at sections first).size) to slots slot both.1 later (omega (arith, whole, in_units first))
      ]

  module _ (count : ℕ) (linked : has_links sections ≡ true) (pools : are_pools count 0 (entries_of sections.pools) ≡ true) (covered : has_cover sections ≡ true) (on_chains : has_all_on_chains sections ≡ true) where
    place_in_units : (slot : ℕ) → slot < length sections.records → is_used (at sections slot).state ≡ true → (at sections slot).place % unit ≡ 0
    place_in_units slot within used =
        let on = all_below (λ slot. not (is_used (at sections slot).state) || list_any (λ pool. is_among slot (chain_of sections pool)) (entries_of sections.pools)) (length sections.records) on_chains slot within in
        let some : list_any (λ pool. is_among slot (chain_of sections pool)) (entries_of sections.pools) ≡ true = not_or (is_used (at sections slot).state) _ on used in
        let there = Any-from_list_any (λ pool. is_among slot (chain_of sections pool)) (entries_of sections.pools) some in
        let pool = there.1 in
        let covers_it = subst (λ p. covers sections p.base (p.base + p.bytes) (chain_of sections p) ≡ true) there.3 (AllPass-from_list_all (λ pool. covers sections pool.base (pool.base + pool.bytes) (chain_of sections pool)) (entries_of sections.pools) covered there.0 pool there.2) in
        let base = subst (λ p. (p.base % unit == 0) ≡ true) there.3 (AllPass-from_list_all (λ pool. pool.base % unit == 0) (entries_of sections.pools) (pool_bases count 0 (entries_of sections.pools) pools) there.0 pool there.2) in
        places_in_units pool.base (pool.base + pool.bytes) (chain_of sections pool) slot covers_it there.4 (eqb-true (pool.base % unit) 0 base)

    pub storable : ((slot : ℕ) → slot < length sections.records → is_used (at sections slot).state ≡ false → at sections slot ≡ blank) → length sections.heads ≡ classes → CanBeStored sections
    storable vacant heads_count = record {
      kept = λ slot within used.
          let links = record_links sections linked slot within used in
          let both = and_parts (is_below (length sections.records) (at sections slot).prev && is_below (length sections.records) (at sections slot).next) (has_links_in (at sections slot).state (length sections.records) (at sections slot)) links in
          let in_pool = and_parts (is_below (length sections.records) (at sections slot).prev) (is_below (length sections.records) (at sections slot).next) both.0 in
          let in_list = free_links (at sections slot).state (length sections.records) (at sections slot) used both.1 in
          record {
            place = place_in_units slot within used;
            size = in_units slot;
            prev = below (length sections.records) (at sections slot).prev in_pool.0;
            next = below (length sections.records) (at sections slot).next in_pool.1;
            prev_free = in_list.0;
            next_free = in_list.1;
          };
      vacant = vacant;
      heads = λ class within. head_below sections linked class (omega (arith, within, heads_count));
    }

-- a record that is of no block is blank
blank_or_used : (bytes : List ℕ) (slot : ℕ) → is_used (record_in bytes slot).state ≡ false → record_in bytes slot ≡ blank
blank_or_used bytes slot unused = elim (cases_Bool (eqb (size_word bytes slot % unit) 0)) [
  | inl zeros ↦ rw zeros refl
  | inr some ↦ absurd (never (eqb (size_word bytes slot % unit) 1) (rw some at unused))
]
  where
    never : (b : Bool) → is_used (if b then Free else Live) ≡ false → ⊥
    never true e = absurd (cc)
    never false e = absurd (cc)

-- the sections of an image that breaks no rule can be stored
pub image_storable : (bytes : List ℕ) → first_broken bytes ≡ None → CanBeStored (sections_in bytes)
image_storable bytes sound =
    let sections = sections_in bytes in
    let whole = unbroken sections (sections_hold bytes sound) in
    storable sections (in_units bytes) (length sections.records) whole.links (ordered bytes sound) whole.cover whole.on_chains
    (λ slot within unused.
    let read = record_read bytes slot (subst (λ (n : ℕ). slot < n) (records_count bytes) within) in
    read ∙ blank_or_used bytes slot (ap (λ (r : Record). is_used r.state) (sym read) ∙ unused))
    (heads_count bytes)
