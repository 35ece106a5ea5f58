-- How many blocks stand on chains and in lists, and whether those are all that there are.
use Rattle.std.proofs.Common.{◌≡◌, ℕ, ◌+◌, ◌<◌, ◌≤◌, Bool, true, false, not, ◌&&◌, ◌||◌, eqb, List, [], ◌∷◌, length, refl, sym, ap, ◌∙◌, subst, arith, count_by, Option, Some, None, inl, inr}
use Rattle.std.specs.Prelude.{⊤, ◌==◌, if◌then◌else◌}
use Rattle.std.specs.List.{list_all, list_any, flat_map, range_with_len}
use Rattle.std.proofs.lemmas.Bool.{cases_Bool, cases_lt, and_parts, or_right, eqb-true, eq-eqb, leb-true, ltb-true, both_ways}
use Rattle.std.proofs.lemmas.List.{get_or_past}
use Rattle.std.proofs.lemmas.List.Folds.{list_any-append}
use Rattle.std.proofs.lemmas.List.FromFn.{length-range_with_len, get_or-range_with_len}
use Rattle.std.proofs.lemmas.List.Sums.{AllPass-from_list_all, list_all-from_AllPass}
use Rattle.tlsf_class.specs.Classes.{class}
use Rattle.tlsf_store.specs.declared.pools.Pool.{Pool}
use Rattle.tlsf_store.specs.declared.records.Record.{Record}
use Rattle.tlsf_store.specs.Records.{blank, record_at, is_free_state}
use Rattle.tlsf_heap.specs.Images.Image.{Sections}
use Rattle.tlsf_heap.specs.Images.Rules.{at, is_used, is_pool, are_pools, is_chain, chain_of, has_record_links, has_links, has_chains, covers, has_cover, is_among, has_all_on_chains, slots_in_list, is_list, are_lists, has_lists, has_all_on_lists}
use Rattle.tlsf_heap.proofs.Images.Counting.{one_if, times-cons, times-append, any_counts, counts_any, sum_below-same, sum_below-apart, items_sum, places_sum}
use Rattle.tlsf_heap.specs.Good.{times}
use Rattle.tlsf_heap.proofs.Images.Distinct.{stands_once}
use Rattle.tlsf_heap.specs.Inner.Entries.{entries_of}

-- a test of all numbers below one
pub all_below : (test : ℕ → Bool) (n : ℕ) → list_all test (range_with_len 0 n) ≡ true → (k : ℕ) → k < n → test k ≡ true
all_below test n all k below =
    let P : ℕ → Type 0 = λ m. test m ≡ true in
    let is : 0 + k ≡ k = omega arith in
    subst P (get_or-range_with_len 0 n k 0 below ∙ is) (AllPass-from_list_all test (range_with_len 0 n) all k 0 (omega (arith, below, length-range_with_len 0 n)))

pub from_all_below : (test : ℕ → Bool) (n : ℕ) → ((k : ℕ) → k < n → test k ≡ true) → list_all test (range_with_len 0 n) ≡ true
from_all_below test n all =
    list_all-from_AllPass test (range_with_len 0 n) (λ k d within.
    let below : k < n = omega (arith, within, length-range_with_len 0 n) in
    let P : ℕ → Type 0 = λ m. test m ≡ true in
    let is : 0 + k ≡ k = omega arith in
    subst P (sym (get_or-range_with_len 0 n k d below ∙ is)) (all k below))

pub not_or : (a b : Bool) → (not a || b) ≡ true → a ≡ true → b ≡ true
not_or true b e is = e
not_or false b e is = absurd (both_ways false refl is)

-- what is found where a test passes
pub was_found : {A : Type 0} (b : Bool) (one found : A) → (if b then Some one else None) ≡ Some found → (b ≡ true) × (one ≡ found)
was_found true one found is = (refl, cc)
was_found false one found is = absurd (cc)

pub was_missed : {A : Type 0} (b : Bool) (one : A) → (if b then Some one else None) ≡ None → b ≡ false
was_missed true one is = absurd (cc)
was_missed false one is = refl

-- two answers that are yes together
same_answer : (a b : Bool) → (a ≡ true → b ≡ true) → (b ≡ true → a ≡ true) → a ≡ b
same_answer true true f g = refl
same_answer true false f g = sym (f refl)
same_answer false true f g = g refl
same_answer false false f g = refl

-- distinct slots of records that pass a test are as many as those records exactly where each of these is among them
module _ (records : List Record) (test : Record → Bool) (slots : List ℕ) where
  counted : test blank ≡ false → ((slot : ℕ) → times slot slots ≤ 1) → ((slot : ℕ) → 1 ≤ times slot slots → test (record_at records slot) ≡ true)
      → (length slots == count_by test records) ≡ list_all (λ slot. not (test (record_at records slot)) || is_among slot slots) (range_with_len 0 (length records))
  counted blank_fails once passes =
      let n = length records in
      let passed : ℕ → ℕ = λ slot. one_if (test (record_at records slot)) in
      let none_past : (slot : ℕ) → n ≤ slot → times slot slots ≡ 0 = λ slot past. (elim (cases_lt 0 (times slot slots)) [
        | inr none ↦ omega (arith, none)
        | inl some ↦ absurd (both_ways (test blank) blank_fails (let P : Record → Type 0 = λ r. test r ≡ true in subst P (get_or_past records slot blank past) (passes slot (omega (arith, some)))))
      ]) in
      let most : (slot : ℕ) → slot < n → times slot slots ≤ passed slot = λ slot below. (elim (cases_lt 0 (times slot slots)) [
        | inr none ↦ omega (arith, none)
        | inl some ↦ omega (arith, once slot, ap one_if (passes slot (omega (arith, some))))
      ]) in
      let sum = items_sum (λ (slot : ℕ). slot) n slots none_past in
      let all = places_sum (λ r. one_if (test r)) records blank in
      same_answer _ _
      (λ same. from_all_below _ n (λ slot below.
      let here = sum_below-apart (λ s. times s slots) passed n most (sum ∙ eqb-true _ _ same ∙ sym all) slot below in
      (elim (cases_Bool (test (record_at records slot))) [
        | inl passed_here ↦ or_right _ _ (counts_any (λ other. eqb other slot) slots (omega (arith, here, ap one_if passed_here)))
        | inr failed ↦ ap (λ b. not b || is_among slot slots) failed
      ])))
      (λ among. eq-eqb _ _ (sym sum ∙ sum_below-same (λ s. times s slots) passed n (λ slot below.
      let here = all_below (λ slot. not (test (record_at records slot)) || is_among slot slots) n among slot below in
      let P : Bool → Type 0 = λ b. (not b || is_among slot slots) ≡ true in
      (elim (cases_Bool (test (record_at records slot))) [
        | inl passed_here ↦ omega (arith, most slot below, ap one_if passed_here, any_counts (λ other. eqb other slot) slots (subst P passed_here here))
        | inr failed ↦ omega (arith, most slot below, ap one_if failed)
      ])) ∙ all))

pub among_any : {X : Type 0} (slots : X → List ℕ) (xs : List X) (slot : ℕ) → is_among slot (flat_map slots xs) ≡ list_any (λ x. is_among slot (slots x)) xs
among_any slots [] slot = refl
among_any slots (x ∷ xs) slot = list_any-append (λ other. eqb other slot) (slots x) (flat_map slots xs) ∙ ap (λ b. is_among slot (slots x) || b) (among_any slots xs slot)

-- a test of all of some items
pub all_first : {X : Type 0} (test : X → Bool) (x : X) (xs : List X) → list_all test (x ∷ xs) ≡ true → test x ≡ true
all_first test x xs all = (and_parts (test x) (list_all test xs) all).0

pub all_rest : {X : Type 0} (test : X → Bool) (x : X) (xs : List X) → list_all test (x ∷ xs) ≡ true → list_all test xs ≡ true
all_rest test x xs all = (and_parts (test x) (list_all test xs) all).1

pub all_among : (test : ℕ → Bool) (slots : List ℕ) → list_all test slots ≡ true → (slot : ℕ) → 1 ≤ times slot slots → test slot ≡ true
all_among test [] all slot some = absurd (omega (arith, some))
all_among test (other ∷ slots) all slot some = elim (cases_Bool (eqb other slot)) [
  | inl same ↦ let P : ℕ → Type 0 = λ s. test s ≡ true in subst P (eqb-true other slot same) (all_first test other slots all)
  | inr apart ↦ all_among test slots (all_rest test other slots all) slot (omega (arith, some, times-cons slot other slots, ap one_if apart))
]

-- slots of items in bands of a key: each item's stand once, in its band, and those of later items above it
module _ {X : Type 0} (slots : X → List ℕ) (key : ℕ → ℕ) where
  abbrev AreBanded : ℕ → List X → Type 0
  AreBanded from [] = ⊤
  AreBanded from (x ∷ xs) = (to : ℕ) × ((slot : ℕ) → times slot (slots x) ≤ 1) × ((slot : ℕ) → 1 ≤ times slot (slots x) → (from ≤ key slot) × (key slot < to)) × (from ≤ to) × AreBanded to xs

  banded_above : (from : ℕ) (xs : List X) → AreBanded from xs → (slot : ℕ) → 1 ≤ times slot (flat_map slots xs) → from ≤ key slot
  banded_above from [] banded slot some = absurd (omega (arith, some))
  banded_above from (x ∷ xs) banded slot some = elim (cases_lt 0 (times slot (slots x))) [
    | inl here ↦ (banded.2 slot (omega (arith, here))).0
    | inr none ↦ omega (arith, banded.3, banded_above banded.0 xs banded.4 slot (omega (arith, some, none, times-append slot (slots x) (flat_map slots xs))))
  ]

  banded_once : (from : ℕ) (xs : List X) → AreBanded from xs → (slot : ℕ) → times slot (flat_map slots xs) ≤ 1
  banded_once from [] banded slot = omega arith
  banded_once from (x ∷ xs) banded slot =
      let both = times-append slot (slots x) (flat_map slots xs) in
      elim (cases_lt 0 (times slot (slots x))) [
        | inr none ↦ omega (arith, none, banded_once banded.0 xs banded.4 slot, both)
        | inl here ↦ elim (cases_lt 0 (times slot (flat_map slots xs))) [
          | inr none ↦ omega (arith, none, banded.1 slot, both)
          | inl more ↦ absurd (omega (arith, (banded.2 slot (omega (arith, here))).1, banded_above banded.0 xs banded.4 slot (omega (arith, more))))
        ]
      ]

module _ (sections : Sections) where
  abbrev pub is_block : ℕ → Bool
  is_block slot = is_used (at sections slot).state

  pub used_below : (slot : ℕ) → is_block slot ≡ true → slot < length sections.records
  used_below slot used = elim (cases_lt slot (length sections.records)) [
    | inl below ↦ below
    | inr past ↦ let P : Record → Type 0 = λ r. is_used r.state ≡ true in absurd (both_ways false refl (subst P (get_or_past sections.records slot blank past) used))
  ]

  -- a block has bytes
  pub has_bytes : has_links sections ≡ true → (slot : ℕ) → is_block slot ≡ true → 0 < (at sections slot).size
  has_bytes linked slot used =
      let all = AllPass-from_list_all (has_record_links (length sections.records)) sections.records (and_parts _ _ linked).1 slot blank (used_below slot used) in
      ltb-true 0 (at sections slot).size (and_parts _ _ (not_or (is_block slot) _ all used)).0

  pub chain_used : (pool : Pool) → is_chain sections pool ≡ true → list_all is_block (chain_of sections pool) ≡ true
  chain_used pool chain = (and_parts _ _ (and_parts _ _ chain).1).0

  module _ (from to slot : ℕ) (slots : List ℕ) (covered : covers sections from to (slot ∷ slots) ≡ true) where
    pub begins_at : (at sections slot).place ≡ from
    begins_at = eqb-true (at sections slot).place from (and_parts (eqb (at sections slot).place from) (covers sections (from + (at sections slot).size) to slots) covered).0

    pub covered_rest : covers sections (from + (at sections slot).size) to slots ≡ true
    covered_rest = (and_parts (eqb (at sections slot).place from) (covers sections (from + (at sections slot).size) to slots) covered).1

  pub covered_up : (slots : List ℕ) (from to : ℕ) → covers sections from to slots ≡ true → from ≤ to
  covered_up [] from to covered = omega (arith, eqb-true from to covered)
  covered_up (slot ∷ slots) from to covered = omega (arith, covered_up slots (from + (at sections slot).size) to (covered_rest from to slot slots covered))

  abbrev pub covers_pool : Pool → Bool
  covers_pool pool = covers sections pool.base (pool.base + pool.bytes) (chain_of sections pool)

  abbrev slots_of : List Pool → List ℕ
  slots_of pools = flat_map (chain_of sections) pools

  begins_above : (count from : ℕ) (pool : Pool) (pools : List Pool) → are_pools count from (pool ∷ pools) ≡ true → from ≤ pool.base
  begins_above count from pool pools ordered = leb-true from pool.base (and_parts _ _ (and_parts _ _ (and_parts (is_pool count from pool) (are_pools count (pool.base + pool.bytes) pools) ordered).0).1).0

  module _ (linked : has_links sections ≡ true) where
    -- the blocks that cover a range stand in it
    pub stands_within : (slots : List ℕ) (from to : ℕ) → list_all is_block slots ≡ true → covers sections from to slots ≡ true → (slot : ℕ) → 1 ≤ times slot slots → (from ≤ (at sections slot).place) × ((at sections slot).place < to)
    stands_within [] from to used covered slot some = absurd (omega (arith, some))
    stands_within (first ∷ slots) from to used covered slot some =
        let r = at sections first in
        let begins = begins_at from to first slots covered in
        let rest = covered_rest from to first slots covered in
        let bytes = has_bytes linked first (all_first is_block first slots used) in
        elim (cases_Bool (eqb first slot)) [
          | inl same ↦
              let P : ℕ → Type 0 = λ s. (from ≤ (at sections s).place) × ((at sections s).place < to) in
              subst P (eqb-true first slot same) (
                let e : from ≤ r.place = omega (arith, begins) in e,
                let e : r.place < to = omega (arith, begins, bytes, covered_up slots (from + r.size) to rest) in e,
              )
          | inr apart ↦
              let behind = stands_within slots (from + r.size) to (all_rest is_block first slots used) rest slot (omega (arith, some, times-cons slot first slots, ap one_if apart)) in
              (let e : from ≤ (at sections slot).place = omega (arith, behind.0) in e, behind.1)
        ]

    -- each of them once
    covers_once : (slots : List ℕ) (from to : ℕ) → list_all is_block slots ≡ true → covers sections from to slots ≡ true → (slot : ℕ) → times slot slots ≤ 1
    covers_once [] from to used covered slot = omega arith
    covers_once (first ∷ slots) from to used covered slot =
        let r = at sections first in
        let rest = covered_rest from to first slots covered in
        let used_rest = all_rest is_block first slots used in
        let once = covers_once slots (from + r.size) to used_rest rest slot in
        elim (cases_Bool (eqb first slot)) [
          | inr apart ↦ omega (arith, once, times-cons slot first slots, ap one_if apart)
          | inl same ↦ elim (cases_lt 0 (times slot slots)) [
            | inr none ↦ omega (arith, none, times-cons slot first slots, ap one_if same)
            | inl some ↦
                let behind = (stands_within slots (from + r.size) to used_rest rest slot (omega (arith, some))).0 in
                let place : r.place ≡ (at sections slot).place = ap (λ s. (at sections s).place) (eqb-true first slot same) in
                absurd (omega (arith, behind, place, begins_at from to first slots covered, has_bytes linked first (all_first is_block first slots used)))
          ]
        ]

    chains_banded : (count from : ℕ) (pools : List Pool) → are_pools count from pools ≡ true → list_all (is_chain sections) pools ≡ true → list_all covers_pool pools ≡ true → AreBanded (chain_of sections) (λ slot. (at sections slot).place) from pools
    chains_banded count from [] ordered chains covered = tt
    chains_banded count from (pool ∷ pools) ordered chains covered =
        let end : ℕ = pool.base + pool.bytes in
        let begins = begins_above count from pool pools ordered in
        let used = chain_used pool (all_first (is_chain sections) pool pools chains) in
        let here = all_first covers_pool pool pools covered in (
          end,
          covers_once (chain_of sections pool) pool.base end used here,
          λ slot some. (let within = stands_within (chain_of sections pool) pool.base end used here slot some in (omega (arith, begins, within.0), within.1)),
          omega (arith, begins),
          chains_banded count end pools (and_parts (is_pool count from pool) (are_pools count end pools) ordered).1 (all_rest (is_chain sections) pool pools chains) (all_rest covers_pool pool pools covered),
        )

    -- each block on the chains of pools in order stands there once
    pub chains_once : (count from : ℕ) (pools : List Pool) → are_pools count from pools ≡ true → list_all (is_chain sections) pools ≡ true → list_all covers_pool pools ≡ true → (slot : ℕ) → times slot (slots_of pools) ≤ 1
    chains_once count from pools ordered chains covered = banded_once (chain_of sections) (λ slot. (at sections slot).place) from pools (chains_banded count from pools ordered chains covered)

  pub on_chain_used : (pools : List Pool) → list_all (is_chain sections) pools ≡ true → (slot : ℕ) → 1 ≤ times slot (flat_map (chain_of sections) pools) → is_block slot ≡ true
  on_chain_used [] chains slot some = absurd (omega (arith, some))
  on_chain_used (pool ∷ pools) chains slot some = elim (cases_lt 0 (times slot (chain_of sections pool))) [
    | inl here ↦ all_among is_block (chain_of sections pool) (chain_used pool (all_first (is_chain sections) pool pools chains)) slot (omega (arith, here))
    | inr none ↦ on_chain_used pools (all_rest (is_chain sections) pool pools chains) slot (omega (arith, some, none, times-append slot (chain_of sections pool) (flat_map (chain_of sections) pools)))
  ]

  -- as many blocks stand on the chains as there are exactly where each is on a chain
  pub chains_counted : has_links sections ≡ true → has_chains sections ≡ true → has_cover sections ≡ true → are_pools (length sections.records) 0 (entries_of sections.pools) ≡ true
      → (length (flat_map (chain_of sections) (entries_of sections.pools)) == count_by (λ r. is_used r.state) sections.records) ≡ has_all_on_chains sections
  chains_counted linked chains covered ordered =
      let pools = entries_of sections.pools in
      counted sections.records (λ r. is_used r.state) (flat_map (chain_of sections) pools) refl (chains_once linked (length sections.records) 0 pools ordered chains covered) (on_chain_used pools chains)
      ∙ ap (λ test. list_all test (range_with_len 0 (length sections.records))) (λ i slot. not (is_block slot) || among_any (chain_of sections) pools slot i)

  -- ---- lists

  abbrev pub is_listed_slot : ℕ → ℕ → Bool
  is_listed_slot number slot = is_free_state (at sections slot).state && (class (at sections slot).size == number)

  pub list_free : (number : ℕ) (first : Option ℕ) → is_list sections number first ≡ true → list_all (is_listed_slot number) (slots_in_list sections first) ≡ true
  list_free number first list = (and_parts _ _ (and_parts _ _ list).1).0

  pub list_once : (number : ℕ) (first : Option ℕ) → is_list sections number first ≡ true → (slot : ℕ) → times slot (slots_in_list sections first) ≤ 1
  list_once number first list slot = stands_once (λ slot. (at sections slot).prev_free) (slots_in_list sections first) (and_parts _ _ (and_parts _ _ list).1).1 slot

  -- a block in a list is free, and of its class
  pub listed_here : (number : ℕ) (first : Option ℕ) → is_list sections number first ≡ true → (slot : ℕ) → 1 ≤ times slot (slots_in_list sections first) → (is_free_state (at sections slot).state ≡ true) × (class (at sections slot).size ≡ number)
  listed_here number first list slot some =
      let both = and_parts (is_free_state (at sections slot).state) (eqb (class (at sections slot).size) number) (all_among (is_listed_slot number) (slots_in_list sections first) (list_free number first list) slot some) in
      (both.0, eqb-true (class (at sections slot).size) number both.1)

  module _ (number : ℕ) (first : Option ℕ) (heads : List (Option ℕ)) (lists : are_lists sections number (first ∷ heads) ≡ true) where
    pub first_list : is_list sections number first ≡ true
    first_list = (and_parts (is_list sections number first) (are_lists sections (number + 1) heads) lists).0

    pub other_lists : are_lists sections (number + 1) heads ≡ true
    other_lists = (and_parts (is_list sections number first) (are_lists sections (number + 1) heads) lists).1

  -- a slot in the lists from a class on is of a free block, of that class or a higher one
  pub listed_from : (number : ℕ) (heads : List (Option ℕ)) → are_lists sections number heads ≡ true → (slot : ℕ) → 1 ≤ times slot (flat_map (slots_in_list sections) heads) → (is_free_state (at sections slot).state ≡ true) × (number ≤ class (at sections slot).size)
  listed_from number [] lists slot some = absurd (omega (arith, some))
  listed_from number (first ∷ heads) lists slot some = elim (cases_lt 0 (times slot (slots_in_list sections first))) [
    | inl here ↦
        let free = listed_here number first (first_list number first heads lists) slot (omega (arith, here)) in
        (free.0, let e : number ≤ class (at sections slot).size = omega (arith, free.1) in e)
    | inr none ↦
        let free = listed_from (number + 1) heads (other_lists number first heads lists) slot (omega (arith, some, none, times-append slot (slots_in_list sections first) (flat_map (slots_in_list sections) heads))) in
        (free.0, let e : number ≤ class (at sections slot).size = omega (arith, free.1) in e)
  ]

  lists_banded : (number : ℕ) (heads : List (Option ℕ)) → are_lists sections number heads ≡ true → AreBanded (slots_in_list sections) (λ slot. class (at sections slot).size) number heads
  lists_banded number [] lists = tt
  lists_banded number (first ∷ heads) lists =
      let list = first_list number first heads lists in (
        number + 1,
        list_once number first list,
        λ slot some. (let own = (listed_here number first list slot some).1 in (omega (arith, own), omega (arith, own))),
        omega arith,
        lists_banded (number + 1) heads (other_lists number first heads lists),
      )

  -- as many blocks stand in the lists as are free exactly where each of these is in a list
  pub lists_counted : has_lists sections ≡ true → (length (flat_map (slots_in_list sections) sections.heads) == count_by (λ r. is_free_state r.state) sections.records) ≡ has_all_on_lists sections
  lists_counted lists =
      counted sections.records (λ r. is_free_state r.state) (flat_map (slots_in_list sections) sections.heads) refl (banded_once (slots_in_list sections) (λ slot. class (at sections slot).size) 0 sections.heads (lists_banded 0 sections.heads lists)) (λ slot some. (listed_from 0 sections.heads lists slot some).0)
      ∙ ap (λ test. list_all test (range_with_len 0 (length sections.records))) (λ i slot. not (is_free_state (at sections slot).state) || among_any (slots_in_list sections) sections.heads slot i)
