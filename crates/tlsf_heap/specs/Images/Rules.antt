-- The rules of an image, in order, each a test; and the first that is broken.
use Rattle.std.specs.Prelude.{◌≡◌, ℕ, ◌+◌, ◌-◌, ◌*◌, ◌%◌, ◌==◌, nat_lt, nat_le, ◌&&◌, ◌||◌, not, Bool, true, false, List, [], ◌∷◌, length, Option, Some, None, is_none, if◌then◌else◌, nat_eq}
use Rattle.std.specs.List.{range_with_len, list_all, list_any, starts_with}
use Rattle.tlsf_class.specs.Classes.{unit, class}
use Rattle.tlsf_store.specs.declared.records.State.{State}
use Rattle.tlsf_store.specs.declared.records.State.TheVariants.{Vacant, Free, Live}
use Rattle.tlsf_store.specs.declared.records.Record.{Record}
use Rattle.tlsf_store.specs.declared.pools.Pool.{Pool}
use Rattle.tlsf_store.specs.Records.{record_at, is_free_state}
use Rattle.tlsf_store.specs.Cells.{most_pools}
use Rattle.tlsf_heap.specs.declared.image.rule.Rule.{Rule}
use Rattle.tlsf_heap.specs.declared.image.rule.Rule.TheVariants.{Magic, Length, Pools, UnusedPools, States, Links, Chains, Cover, OnChains, Merged, Lists, OnLists}
use Rattle.tlsf_heap.specs.Images.Image.{two_at, are_zero, magic, count_at, pools_at, zeros_at, entry_at, record_start, size_word, Sections, sections_in}
use Rattle.tlsf_heap.specs.Images.Links.{chain_from, list_from, is_linked}
use Rattle.tlsf_heap.specs.Inner.Entries.{entries_of}
use Rattle.tlsf_store.specs.Ranges.{can_be_pool}

-- ---- of the bytes

-- 1: nothing is missing in front of the records, and the magic stands first
abbrev pub has_magic : List ℕ → Bool
has_magic bytes = nat_le (record_start 0) (length bytes) && starts_with nat_eq bytes magic

-- 2: there is a record, there are at most as many pools as there can be, and the records end the image
abbrev pub has_length : List ℕ → Bool
has_length bytes =
    nat_lt 0 (two_at count_at bytes) && (nat_le (two_at pools_at bytes) most_pools && (are_zero zeros_at 4 bytes && (length bytes == record_start (two_at count_at bytes))))

-- a pool can be at its range, from a place on, and its first record is one of this many
abbrev pub is_pool : ℕ → ℕ → Pool → Bool
is_pool count from pool = can_be_pool pool.base pool.bytes && (nat_le from pool.base && nat_lt pool.first count)

-- each pool passes `is_pool`: the first from a place on, each other from the end of the one before on
abbrev pub are_pools : ℕ → ℕ → List Pool → Bool
are_pools count from [] = true
are_pools count from (pool ∷ pools) = is_pool count from pool && are_pools count (pool.base + pool.bytes) pools

-- the pools of these sections pass `are_pools` from place 0 on
abbrev pub has_ordered_pools : Sections → Bool
has_ordered_pools sections = are_pools (length sections.records) 0 (entries_of sections.pools)

-- behind an entry without a pool no entry has one
abbrev pub are_packed : List (Option Pool) → Bool
are_packed [] = true
are_packed (None ∷ entries) = list_all is_none entries
are_packed (Some pool ∷ entries) = are_packed entries

-- the entries with pools come first, and their pools pass `are_pools` from place 0 on
abbrev pub has_packed_pools : Sections → Bool
has_packed_pools sections = are_packed sections.pools && has_ordered_pools sections

-- 3: the pools pass `are_pools` from place 0 on, and their entries end with zeros
abbrev pub has_pools : List ℕ → Bool
has_pools bytes =
    are_pools (two_at count_at bytes) 0 (entries_of (sections_in bytes).pools) && list_all (λ number. are_zero (entry_at number + 10) 2 bytes) (range_with_len 0 (two_at pools_at bytes))

-- 4: the entries behind them are zero
abbrev pub has_unused_pools : List ℕ → Bool
has_unused_pools bytes = are_zero (entry_at (two_at pools_at bytes)) (12 * (most_pools - two_at pools_at bytes)) bytes

-- a record's state is one of three; a vacant record is zero
abbrev pub has_state : List ℕ → ℕ → Bool
has_state bytes slot = nat_lt (size_word bytes slot % unit) 3 && (nat_lt 0 (size_word bytes slot % unit) || are_zero (record_start slot) 16 bytes)

-- 5: each record's state is one of three, and a vacant record is zero
abbrev pub has_states : List ℕ → Bool
has_states bytes = list_all (has_state bytes) (range_with_len 0 (two_at count_at bytes))

-- bytes of which these rules hold
pub record IsReadable (bytes : List ℕ) : Type 0 where
  pub magic : has_magic bytes ≡ true
  pub length : has_length bytes ≡ true
  pub pools : has_pools bytes ≡ true
  pub unused : has_unused_pools bytes ≡ true
  pub states : has_states bytes ≡ true

-- ---- of what they describe

-- a link is none, or one of this many records
abbrev pub is_below : ℕ → Option ℕ → Bool
is_below count None = true
is_below count (Some slot) = nat_lt slot count

-- the links of a record by its state
abbrev pub has_links_in : State → ℕ → Record → Bool
has_links_in Vacant count r = true
has_links_in Free count r = is_below count r.prev_free && is_below count r.next_free
has_links_in Live count r = is_none r.prev_free && is_none r.next_free

-- whether a record in this state is of a block
abbrev pub is_used : State → Bool
is_used Vacant = false
is_used other = true

-- a block has bytes and links of records, a live one no links in a list
abbrev pub has_record_links : ℕ → Record → Bool
has_record_links count r = not (is_used r.state) || (nat_lt 0 r.size && ((is_below count r.prev && is_below count r.next) && has_links_in r.state count r))

-- 6: each head is none or one of the records, and each record passes `has_record_links`
abbrev pub has_links : Sections → Bool
has_links sections = list_all (is_below (length sections.records)) sections.heads && list_all (has_record_links (length sections.records)) sections.records

-- the chain of a pool
abbrev pub chain_of : Sections → Pool → List ℕ
chain_of sections pool = chain_from sections.records (Some pool.first)

-- the record of a slot
abbrev pub at : Sections → ℕ → Record
at sections slot = record_at sections.records slot

-- a chain ends, has blocks alone, and is linked back
abbrev pub is_chain : Sections → Pool → Bool
is_chain sections pool = is_linked (λ slot. is_used (at sections slot).state) (λ slot. (at sections slot).next) (λ slot. (at sections slot).prev) (length sections.records) None (Some pool.first)

-- 7: the chain of each pool ends, has blocks alone, and is linked back
abbrev pub has_chains : Sections → Bool
has_chains sections = list_all (is_chain sections) (entries_of sections.pools)

-- each block begins where the one before ends, from one place up to another
abbrev pub covers : Sections → ℕ → ℕ → List ℕ → Bool
covers sections from to [] = from == to
covers sections from to (slot ∷ slots) = ((at sections slot).place == from) && covers sections (from + (at sections slot).size) to slots

-- 8: the blocks of each chain cover its pool
abbrev pub has_cover : Sections → Bool
has_cover sections = list_all (λ pool. covers sections pool.base (pool.base + pool.bytes) (chain_of sections pool)) (entries_of sections.pools)

-- whether the slot is one of these
abbrev pub is_among : ℕ → List ℕ → Bool
is_among slot slots = list_any (λ other. other == slot) slots

-- 9: each block is on the chain of a pool
abbrev pub has_all_on_chains : Sections → Bool
has_all_on_chains sections =
    list_all (λ slot. not (is_used (at sections slot).state) || list_any (λ pool. is_among slot (chain_of sections pool)) (entries_of sections.pools)) (range_with_len 0 (length sections.records))

-- no free block stands behind a free one; after_free: one stands in front of the first
abbrev pub are_merged : Sections → Bool → List ℕ → Bool
are_merged sections after_free [] = true
are_merged sections after_free (slot ∷ slots) = not (after_free && is_free_state (at sections slot).state) && are_merged sections (is_free_state (at sections slot).state) slots

-- 10: no two free blocks stand side by side on a chain
abbrev pub has_merged : Sections → Bool
has_merged sections = list_all (λ pool. are_merged sections false (chain_of sections pool)) (entries_of sections.pools)

-- the list of a class with this head
abbrev pub slots_in_list : Sections → Option ℕ → List ℕ
slots_in_list sections first = list_from sections.records first

-- a list ends, has free blocks of its class alone, and is linked back
abbrev pub is_list : Sections → ℕ → Option ℕ → Bool
is_list sections number first =
    is_linked (λ slot. is_free_state (at sections slot).state && (class (at sections slot).size == number)) (λ slot. (at sections slot).next_free) (λ slot. (at sections slot).prev_free) (length sections.records) None first

-- each list passes `is_list`, from the class of this number on
abbrev pub are_lists : Sections → ℕ → List (Option ℕ) → Bool
are_lists sections number [] = true
are_lists sections number (first ∷ more) = is_list sections number first && are_lists sections (number + 1) more

-- 11: the list of each class ends, has free blocks of its class alone, and is linked back
abbrev pub has_lists : Sections → Bool
has_lists sections = are_lists sections 0 sections.heads

-- 12: each free block is on the list of a class
abbrev pub has_all_on_lists : Sections → Bool
has_all_on_lists sections =
    list_all (λ slot. not (is_free_state (at sections slot).state) || list_any (λ first. is_among slot (slots_in_list sections first)) sections.heads) (range_with_len 0 (length sections.records))

-- ---- all of them

-- the first rule whose test says no
abbrev pub first_unmet : List (Rule × Bool) → Option Rule
first_unmet [] = None
first_unmet (rule ∷ rules) = if rule.1 then first_unmet rules else Some rule.0

abbrev pub rules_of_sections : Sections → List (Rule × Bool)
rules_of_sections sections =
    (Links, has_links sections) ∷ (Chains, has_chains sections) ∷ (Cover, has_cover sections) ∷ (OnChains, has_all_on_chains sections)
    ∷ (Merged, has_merged sections) ∷ (Lists, has_lists sections) ∷ (OnLists, has_all_on_lists sections) ∷ []

-- the rules of sections that were not read from bytes, of which the rule on the pools comes first
abbrev pub rules_of_table : Sections → List (Rule × Bool)
rules_of_table sections = (Pools, has_packed_pools sections) ∷ rules_of_sections sections

abbrev pub rules : List ℕ → List (Rule × Bool)
rules bytes =
    (Magic, has_magic bytes) ∷ (Length, has_length bytes) ∷ (Pools, has_pools bytes) ∷ (UnusedPools, has_unused_pools bytes) ∷ (States, has_states bytes)
    ∷ rules_of_sections (sections_in bytes)

-- the first rule that the bytes break
abbrev pub first_broken : List ℕ → Option Rule
first_broken bytes = first_unmet (rules bytes)
