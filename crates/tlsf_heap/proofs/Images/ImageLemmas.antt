-- What stands in readable bytes, by number.
use Rattle.std.proofs.Common.{false, ◌≡◌, ℕ, ◌+◌, ◌<◌, ◌≤◌, Bool, true, ◌&&◌, List, [], ◌∷◌, map, length, Some, None, refl, sym, ◌∙◌, subst, arith}
use Rattle.std.specs.Prelude.{nat_lt, nat_le, if◌then◌else◌, ◌==◌}
use Rattle.std.specs.List.{list_all, range_with_len}
use Rattle.std.proofs.lemmas.Bool.{and_parts, and_from, eqb-true, leb-true, ltb-true}
use Rattle.std.proofs.lemmas.List.FromFn.{length-map-range_with_len, get_or-map-range_with_len}
use Rattle.std.proofs.lemmas.List.Folds.{list_all-map}
use Rattle.tlsf_class.specs.Classes.{classes}
use Rattle.tlsf_store.specs.declared.pools.Pool.{Pool}
use Rattle.tlsf_store.specs.Records.{blank, record_at}
use Rattle.tlsf_store.specs.Cells.{head_at as head_of, pool_at, most_pools}
use Rattle.tlsf_store.specs.Ranges.{can_be_pool}
use Rattle.tlsf_heap.specs.Images.Image.{two_at, count_at, pools_at, zeros_at, are_zero, record_start, record_in, head_in, pool_in, sections_in}
use Rattle.tlsf_heap.specs.Images.Rules.{is_pool, are_pools, has_magic, has_length, has_pools, has_unused_pools, has_states, IsReadable, first_unmet, rules_of_sections, first_broken}
use Rattle.tlsf_heap.specs.declared.image.rule.Rule.{Rule}
use Rattle.tlsf_heap.specs.declared.image.rule.Rule.TheVariants.{Magic, Length, Pools, UnusedPools, States}
use Rattle.tlsf_heap.proofs.Images.PoolLemmas.{pools_present}
use Rattle.tlsf_heap.proofs.Images.Totals.{all_below}
use Rattle.tlsf_heap.specs.Inner.Entries.{entries_of}

all_pass : (a b c d e : Bool) (more : List (Rule × Bool)) → a ≡ true → b ≡ true → c ≡ true → d ≡ true → e ≡ true
    → first_unmet ((Magic, a) ∷ (Length, b) ∷ (Pools, c) ∷ (UnusedPools, d) ∷ (States, e) ∷ more) ≡ first_unmet more
all_pass a b c d e more p q r s t = rw (p, q, r, s, t) refl

-- a rule whose test says no is the first that is broken, where those in front of it hold
at_first : (a : Bool) (more : List (Rule × Bool)) → a ≡ false → first_unmet ((Magic, a) ∷ more) ≡ Some Magic
at_first a more off = rw off refl

at_second : (a b : Bool) (more : List (Rule × Bool)) → a ≡ true → b ≡ false → first_unmet ((Magic, a) ∷ (Length, b) ∷ more) ≡ Some Length
at_second a b more p off = rw (p, off) refl

at_third : (a b c : Bool) (more : List (Rule × Bool)) → a ≡ true → b ≡ true → c ≡ false → first_unmet ((Magic, a) ∷ (Length, b) ∷ (Pools, c) ∷ more) ≡ Some Pools
at_third a b c more p q off = rw (p, q, off) refl

at_fourth : (a b c d : Bool) (more : List (Rule × Bool)) → a ≡ true → b ≡ true → c ≡ true → d ≡ false
    → first_unmet ((Magic, a) ∷ (Length, b) ∷ (Pools, c) ∷ (UnusedPools, d) ∷ more) ≡ Some UnusedPools
at_fourth a b c d more p q r off = rw (p, q, r, off) refl

at_fifth : (a b c d e : Bool) (more : List (Rule × Bool)) → a ≡ true → b ≡ true → c ≡ true → d ≡ true → e ≡ false
    → first_unmet ((Magic, a) ∷ (Length, b) ∷ (Pools, c) ∷ (UnusedPools, d) ∷ (States, e) ∷ more) ≡ Some States
at_fifth a b c d e more p q r s off = rw (p, q, r, s, off) refl

module _ (bytes : List ℕ) where
  -- how many records and pools there are
  pub records_count : length (sections_in bytes).records ≡ two_at count_at bytes
  records_count = length-map-range_with_len (record_in bytes) 0 (two_at count_at bytes)

  pub heads_count : length (sections_in bytes).heads ≡ classes
  heads_count = length-map-range_with_len (head_in bytes) 0 classes

  -- the record of a slot, the head of a class, the pool of a number
  pub record_read : (slot : ℕ) → slot < two_at count_at bytes → record_at (sections_in bytes).records slot ≡ record_in bytes slot
  record_read slot within = get_or-map-range_with_len (record_in bytes) 0 (two_at count_at bytes) slot slot blank within (let same : 0 + slot ≡ slot = omega arith in same)

  pub head_read : (class : ℕ) → class < classes → head_of (sections_in bytes).heads class ≡ head_in bytes class
  head_read class within = get_or-map-range_with_len (head_in bytes) 0 classes class class None within (let same : 0 + class ≡ class = omega arith in same)

  pub pool_read : (number : ℕ) → number < most_pools → pool_at (sections_in bytes).pools number ≡ (if nat_lt number (two_at pools_at bytes) then Some (pool_in bytes number) else None)
  pool_read number within = get_or-map-range_with_len (λ number. if nat_lt number (two_at pools_at bytes) then Some (pool_in bytes number) else None) 0 most_pools number number None within (let same : 0 + number ≡ number = omega arith in same)

  module _ (readable : IsReadable bytes) where
    counts : (nat_lt 0 (two_at count_at bytes) ≡ true) × ((nat_le (two_at pools_at bytes) most_pools && (are_zero zeros_at 4 bytes && (length bytes == record_start (two_at count_at bytes)))) ≡ true)
    counts = and_parts (nat_lt 0 (two_at count_at bytes)) (nat_le (two_at pools_at bytes) most_pools && (are_zero zeros_at 4 bytes && (length bytes == record_start (two_at count_at bytes)))) readable.length

    behind : (nat_le (two_at pools_at bytes) most_pools ≡ true) × ((are_zero zeros_at 4 bytes && (length bytes == record_start (two_at count_at bytes))) ≡ true)
    behind = and_parts (nat_le (two_at pools_at bytes) most_pools) (are_zero zeros_at 4 bytes && (length bytes == record_start (two_at count_at bytes))) counts.1

    pub few_pools : two_at pools_at bytes ≤ most_pools
    few_pools = leb-true (two_at pools_at bytes) most_pools behind.0

    pub whole_length : length bytes ≡ record_start (two_at count_at bytes)
    whole_length = eqb-true (length bytes) (record_start (two_at count_at bytes)) (and_parts (are_zero zeros_at 4 bytes) (length bytes == record_start (two_at count_at bytes)) behind.1).1

  firsts : (count from : ℕ) (pools : List Pool) → are_pools count from pools ≡ true → list_all (λ pool. nat_lt pool.first count) pools ≡ true
  firsts count from [] e = refl
  firsts count from (pool ∷ pools) e =
      let both = and_parts (is_pool count from pool) (are_pools count (pool.base + pool.bytes) pools) e in
      let one = (and_parts (nat_le from pool.base) (nat_lt pool.first count) (and_parts (can_be_pool pool.base pool.bytes) (nat_le from pool.base && nat_lt pool.first count) both.0).1).1 in
      and_from (nat_lt pool.first count) (list_all (λ pool. nat_lt pool.first count) pools) one (firsts count (pool.base + pool.bytes) pools both.1)

  -- the pools are where pools can be
  pub pools_are : IsReadable bytes → are_pools (two_at count_at bytes) 0 (entries_of (sections_in bytes).pools) ≡ true
  pools_are readable = (and_parts (are_pools (two_at count_at bytes) 0 (entries_of (sections_in bytes).pools)) _ readable.pools).0

  -- the first record of a pool is one of the records
  pub first_below : IsReadable bytes → (number : ℕ) → number < two_at pools_at bytes → (pool_in bytes number).first < two_at count_at bytes
  first_below readable number within =
      let count = two_at count_at bytes in
      let pools = two_at pools_at bytes in
      let there = firsts count 0 (map (pool_in bytes) (range_with_len 0 pools)) (subst (λ ps. are_pools count 0 ps ≡ true) (pools_present bytes (few_pools readable)) (pools_are readable)) in
      let by_number = sym (list_all-map (λ pool. nat_lt pool.first count) (pool_in bytes) (range_with_len 0 pools)) ∙ there in
      ltb-true (pool_in bytes number).first count (all_below (λ number. nat_lt (pool_in bytes number).first count) pools by_number number within)

  -- of readable bytes the rules of what they describe are left
  pub first_left : IsReadable bytes → first_broken bytes ≡ first_unmet (rules_of_sections (sections_in bytes))
  first_left readable =
      all_pass (has_magic bytes) (has_length bytes) (has_pools bytes) (has_unused_pools bytes) (has_states bytes) (rules_of_sections (sections_in bytes)) readable.magic readable.length readable.pools readable.unused readable.states

  -- the first rule that is broken, up to that of states
  pub not_magic : has_magic bytes ≡ false → first_broken bytes ≡ Some Magic
  not_magic off =
      at_first (has_magic bytes) ((Length, has_length bytes) ∷ (Pools, has_pools bytes) ∷ (UnusedPools, has_unused_pools bytes) ∷ (States, has_states bytes) ∷ rules_of_sections (sections_in bytes)) off

  pub not_length : has_magic bytes ≡ true → has_length bytes ≡ false → first_broken bytes ≡ Some Length
  not_length magic off =
      at_second (has_magic bytes) (has_length bytes) ((Pools, has_pools bytes) ∷ (UnusedPools, has_unused_pools bytes) ∷ (States, has_states bytes) ∷ rules_of_sections (sections_in bytes)) magic off

  pub not_pools : has_magic bytes ≡ true → has_length bytes ≡ true → has_pools bytes ≡ false → first_broken bytes ≡ Some Pools
  not_pools magic whole off =
      at_third (has_magic bytes) (has_length bytes) (has_pools bytes) ((UnusedPools, has_unused_pools bytes) ∷ (States, has_states bytes) ∷ rules_of_sections (sections_in bytes)) magic whole off

  pub not_unused : has_magic bytes ≡ true → has_length bytes ≡ true → has_pools bytes ≡ true → has_unused_pools bytes ≡ false → first_broken bytes ≡ Some UnusedPools
  not_unused magic whole pools off =
      at_fourth (has_magic bytes) (has_length bytes) (has_pools bytes) (has_unused_pools bytes) ((States, has_states bytes) ∷ rules_of_sections (sections_in bytes)) magic whole pools off

  pub not_states : has_magic bytes ≡ true → has_length bytes ≡ true → has_pools bytes ≡ true → has_unused_pools bytes ≡ true → has_states bytes ≡ false → first_broken bytes ≡ Some States
  not_states magic whole pools unused off =
      at_fifth (has_magic bytes) (has_length bytes) (has_pools bytes) (has_unused_pools bytes) (has_states bytes) (rules_of_sections (sections_in bytes)) magic whole pools unused off
