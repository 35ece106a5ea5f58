-- Where no rule is broken each block stands on one chain, and each free one in the list of its class, once.
use Rattle.std.proofs.Common.{◌≡◌, ℕ, zero, suc, ◌+◌, ◌≤◌, Bool, true, false, not, ◌&&◌, ◌||◌, eqb, List, [], ◌∷◌, length, refl, sym, ◌∙◌, subst, arith, Option, Some, None, inl, inr}
use Rattle.std.specs.Prelude.{slice_index_or, nat_eq}
use Rattle.std.specs.Option.{option_eq}
use Rattle.std.specs.List.{list_any, flat_map}
use Rattle.std.proofs.lemmas.Bool.{cases_Bool, cases_lt, and_parts, and_from, eqb-true, eq-eqb, both_ways}
use Rattle.tlsf_class.specs.Classes.{class}
use Rattle.tlsf_store.specs.Cells.{head_at}
use Rattle.tlsf_store.specs.Records.{is_free_state}
use Rattle.tlsf_heap.specs.Images.Image.{Sections}
use Rattle.tlsf_heap.specs.Images.Links.{ends_within, is_linked}
use Rattle.tlsf_heap.specs.Images.Rules.{at, are_pools, chain_of, has_links, has_chains, has_cover, is_among, has_all_on_chains, slots_in_list, is_list, are_lists, has_lists, has_all_on_lists}
use Rattle.tlsf_heap.proofs.Images.Counting.{one_if, times-append, any_counts}
use Rattle.tlsf_heap.specs.Good.{times}
use Rattle.tlsf_heap.proofs.Images.LinkLemmas.{linked_on, linked_not_on, linked_end}
use Rattle.tlsf_heap.proofs.Images.Distinct.{same_link}
use Rattle.tlsf_heap.proofs.Images.Totals.{all_below, not_or, among_any, is_block, used_below, chains_once, on_chain_used, is_listed_slot, list_once, listed_here, listed_from, first_list, other_lists}
use Rattle.tlsf_heap.specs.Inner.Entries.{entries_of}
use Rattle.tlsf_heap.proofs.Images.ChainLemmas.{free_is_used}

-- what linked slots tell of the first one, and of those behind it
pub record IsStep (test : ℕ → Bool) (next back : ℕ → Option ℕ) (n : ℕ) (before : Option ℕ) (slot : ℕ) : Type 0 where
  pub passes : test slot ≡ true
  pub back_is : back slot ≡ before
  pub rest : is_linked test next back n (Some slot) (next slot) ≡ true

pub linked_step : (test : ℕ → Bool) (next back : ℕ → Option ℕ) (n : ℕ) (before : Option ℕ) (slot : ℕ) → is_linked test next back (suc n) before (Some slot) ≡ true → IsStep test next back n before slot
linked_step test next back n before slot linked = elim (cases_Bool (test slot && option_eq nat_eq (back slot) before)) [
  | inl on ↦ record {
    passes = (and_parts _ _ on).0;
    back_is = same_link (back slot) before (and_parts _ _ on).1;
    rest = sym (linked_on test next back n before slot on) ∙ linked;
  }
  | inr off ↦ absurd (both_ways _ (linked_not_on test next back n before slot off) linked)
]

pub linked_ends : (test : ℕ → Bool) (next back : ℕ → Option ℕ) (n : ℕ) (before first : Option ℕ) → is_linked test next back n before first ≡ true → ends_within n next first ≡ true
linked_ends test next back n before first linked = (and_parts _ _ linked).0

-- at most once, and at least once exactly where a test passes
as_often : (n : ℕ) (b : Bool) → n ≤ 1 → (1 ≤ n → b ≡ true) → (b ≡ true → 1 ≤ n) → n ≡ one_if b
as_often n true most needs gives = omega (arith, most, gives refl)
as_often n false most needs gives = elim (cases_lt 0 n) [
  | inl some ↦ absurd (both_ways false refl (needs (omega (arith, some))))
  | inr none ↦ omega (arith, none)
]

module _ (sections : Sections) where
  pub on_chain_once : has_links sections ≡ true → has_chains sections ≡ true → has_cover sections ≡ true → are_pools (length sections.records) 0 (entries_of sections.pools) ≡ true → has_all_on_chains sections ≡ true
      → (slot : ℕ) → times slot (flat_map (chain_of sections) (entries_of sections.pools)) ≡ one_if (is_block sections slot)
  on_chain_once linked chains covered ordered all slot =
      let pools = entries_of sections.pools in
      let slots = flat_map (chain_of sections) pools in
      as_often (times slot slots) (is_block sections slot) (chains_once sections linked (length sections.records) 0 pools ordered chains covered slot) (on_chain_used sections pools chains slot)
      (λ used.
      let here = all_below (λ slot. not (is_block sections slot) || list_any (λ pool. is_among slot (chain_of sections pool)) pools) (length sections.records) all slot (used_below sections slot used) in
      any_counts (λ other. eqb other slot) slots (among_any (chain_of sections) pools slot ∙ not_or (is_block sections slot) _ here used))

  -- the list of each class is one, also of those that there aren't
  pub list_at : (from number : ℕ) (heads : List (Option ℕ)) → are_lists sections from heads ≡ true → is_list sections (from + number) (slice_index_or heads number None) ≡ true
  list_at from number [] lists = linked_end (is_listed_slot sections (from + number)) (λ slot. (at sections slot).next_free) (λ slot. (at sections slot).prev_free) (length sections.records) None
  list_at from zero (first ∷ heads) lists =
      let P : ℕ → Type 0 = λ number. is_list sections number first ≡ true in
      let same : from ≡ from + 0 = omega arith in
      subst P same (first_list sections from first heads lists)
  list_at from (suc number) (first ∷ heads) lists =
      let P : ℕ → Type 0 = λ k. is_list sections k (slice_index_or heads number None) ≡ true in
      let same : (from + 1) + number ≡ from + suc number = omega arith in
      subst P same (list_at (from + 1) number heads (other_lists sections from first heads lists))

  -- a listed block stands in the list of its class
  in_own_list : (from number slot : ℕ) (heads : List (Option ℕ)) → are_lists sections from heads ≡ true → from + number ≡ class (at sections slot).size → 1 ≤ times slot (flat_map (slots_in_list sections) heads)
      → 1 ≤ times slot (slots_in_list sections (slice_index_or heads number None))
  in_own_list from number slot [] lists is some = absurd (omega (arith, some))
  in_own_list from zero slot (first ∷ heads) lists is some = elim (cases_lt 0 (times slot (slots_in_list sections first))) [
    | inl here ↦ omega (arith, here)
    | inr none ↦
        let more : 1 ≤ times slot (flat_map (slots_in_list sections) heads) = omega (arith, some, none, times-append slot (slots_in_list sections first) (flat_map (slots_in_list sections) heads)) in
        absurd (omega (arith, is, (listed_from sections (from + 1) heads (other_lists sections from first heads lists) slot more).1))
  ]
  in_own_list from (suc number) slot (first ∷ heads) lists is some = elim (cases_lt 0 (times slot (slots_in_list sections first))) [
    | inl here ↦ absurd (omega (arith, is, (listed_here sections from first (first_list sections from first heads lists) slot (omega (arith, here))).1))
    | inr none ↦
        in_own_list (from + 1) number slot heads (other_lists sections from first heads lists) (omega (arith, is)) (omega (arith, some, none, times-append slot (slots_in_list sections first) (flat_map (slots_in_list sections) heads)))
  ]

  module _ (lists : has_lists sections ≡ true) where
    pub list_of_class : (number : ℕ) → is_list sections number (head_at sections.heads number) ≡ true
    list_of_class number =
        let P : ℕ → Type 0 = λ k. is_list sections k (head_at sections.heads number) ≡ true in
        let same : 0 + number ≡ number = omega arith in
        subst P same (list_at 0 number sections.heads lists)

    pub in_list_once : has_all_on_lists sections ≡ true → (number slot : ℕ) → times slot (slots_in_list sections (head_at sections.heads number)) ≡ one_if (is_listed_slot sections number slot)
    in_list_once all number slot =
        let first = head_at sections.heads number in
        let list = list_of_class number in
        as_often (times slot (slots_in_list sections first)) (is_listed_slot sections number slot) (list_once sections number first list slot)
        (λ some. let free = listed_here sections number first list slot some in and_from _ _ free.0 (eq-eqb _ _ free.1))
        (λ listed.
        let both = and_parts (is_free_state (at sections slot).state) (eqb (class (at sections slot).size) number) listed in
        let here = all_below (λ slot. not (is_free_state (at sections slot).state) || list_any (λ first. is_among slot (slots_in_list sections first)) sections.heads) (length sections.records) all slot (used_below sections slot (free_is_used (at sections slot).state both.0)) in
        let some = any_counts (λ other. eqb other slot) (flat_map (slots_in_list sections) sections.heads) (among_any (slots_in_list sections) sections.heads slot ∙ not_or (is_free_state (at sections slot).state) _ here both.0) in
        in_own_list 0 number slot sections.heads lists (omega (arith, eqb-true (class (at sections slot).size) number both.1)) some)
