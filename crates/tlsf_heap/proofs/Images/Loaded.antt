-- Cells that hold what an image describes, of which no rule is broken, stand for the content that it describes.
use Rattle.std.proofs.Common.{◌≡◌, ℕ, zero, suc, ◌+◌, ◌-◌, ◌≤◌, ◌%◌, true, eqb, List, ◌∷◌, ◌++◌, length, map, replicate, refl, sym, ap, ◌∙◌, subst, arith, Option, Some, None, inl, inr}
use Rattle.std.specs.Prelude.{if◌then◌else◌, nat_lt}
use Rattle.std.specs.List.{range_with_len}
use Rattle.std.proofs.lemmas.Bool.{and_parts, cases_Bool, cases_lt, lt-ltb, le-ltb}
use Rattle.std.proofs.lemmas.List.{get_or_past}
use Rattle.std.proofs.lemmas.List.FromFn.{length-map-range_with_len, get_or-map-range_with_len}
use Rattle.tlsf_class.specs.Classes.{unit, classes}
use Rattle.tlsf_store.specs.declared.records.Record.{Record}
use Rattle.tlsf_store.specs.declared.pools.Pool.{Pool as StoredPool}
use Rattle.tlsf_store.specs.Records.{blank, record_at}
use Rattle.tlsf_store.specs.Cells.{Cells, most_pools}
use Rattle.tlsf_heap.specs.declared.image.rule.Rule.TheVariants.{Magic, Length, Pools, UnusedPools, States}
use Rattle.tlsf_heap.specs.Images.Image.{two_at, count_at, pools_at, size_word, pool_in as pool_of_bytes, head_in, record_in, Sections, sections_in}
use Rattle.tlsf_heap.specs.Images.Rules.{has_magic, has_length, has_pools, has_unused_pools, has_states, are_pools, first_unmet, rules_of_sections, first_broken}
use Rattle.tlsf_heap.proofs.Images.UnbrokenRules.{holds_first}
use Rattle.tlsf_heap.specs.Images.Described.{described}
use Rattle.tlsf_heap.specs.Inner.Entries.{entries_of, padded}
use Rattle.tlsf_heap.specs.Inner.Following.{content_from, content_of, Stands}
use Rattle.tlsf_heap.specs.Inner.Loading.{HoldsSections}
use Rattle.tlsf_heap.proofs.Images.Standing.{imaged_stand}
use Rattle.tlsf_heap.proofs.Inner.EntryLists.{entries_of-none}
use Rattle.tlsf_heap.proofs.Images.ImageLemmas.{records_count}

-- entries up to a number, and none behind them
module _ (pool : ℕ → StoredPool) (count : ℕ) where
  abbrev entry : ℕ → Option StoredPool
  entry number = if nat_lt number count then Some (pool number) else None

  abbrev entries_from : ℕ → ℕ → List (Option StoredPool)
  entries_from from n = map entry (range_with_len from n)

  none_from : (from n : ℕ) → count ≤ from → entries_from from n ≡ replicate n None
  none_from from zero past = refl
  none_from from (suc n) past = rw (le-ltb from count past) (ap (λ rest. None ∷ rest) (none_from (from + 1) n (omega (arith, past))))

  abbrev padded_to : ℕ → List (Option StoredPool) → List (Option StoredPool)
  padded_to n pools = map Some (entries_of pools) ++ replicate (n - length (entries_of pools)) None

  packed_from : (from n : ℕ) → entries_from from n ≡ padded_to n (entries_from from n)
  packed_from from zero = refl
  packed_from from (suc n) = elim (cases_lt from count) [
    | inl below ↦ rw (lt-ltb from count below) (ap (λ rest. Some (pool from) ∷ rest) (packed_from (from + 1) n ∙ ap (λ k. map Some (entries_of (entries_from (from + 1) n)) ++ replicate k None) (
        let e : n - length (entries_of (entries_from (from + 1) n)) ≡ suc n - suc (length (entries_of (entries_from (from + 1) n))) = omega arith in e
        )))
    | inr past ↦
        let all : entries_from from (suc n) ≡ replicate (suc n) None = none_from from (suc n) past in
        let P : List (Option StoredPool) → Type 0 = λ pools. pools ≡ padded_to (suc n) pools in
        let none : replicate (suc n) None ≡ padded_to (suc n) (replicate (suc n) None) = sym (ap (λ entries. map Some entries ++ replicate (suc n - length entries) None) (entries_of-none (suc n)) ∙ ap (λ k. replicate k None) (let e : suc n - 0 ≡ suc n = omega arith in e)) in
        subst P (sym all) none
  ]

whole_units : (n : ℕ) → (n - n % unit) % unit ≡ 0
whole_units n = omega arith

record_units : (bytes : List ℕ) (slot : ℕ) → (record_in bytes slot).size % unit ≡ 0
record_units bytes slot = elim (cases_Bool (eqb (size_word bytes slot % unit) 0)) [
  | inl vacant ↦ rw vacant refl
  | inr used ↦ rw used (whole_units (size_word bytes slot))
]

module _ (bytes : List ℕ) where
  pub in_units : (slot : ℕ) → (record_at (sections_in bytes).records slot).size % unit ≡ 0
  in_units slot = elim (cases_lt slot (two_at count_at bytes)) [
    | inl below ↦
        let same : 0 + slot ≡ slot = omega arith in
        ap (λ (r : Record). r.size % unit) (get_or-map-range_with_len (record_in bytes) 0 (two_at count_at bytes) slot slot blank below same) ∙ record_units bytes slot
    | inr past ↦ ap (λ (r : Record). r.size % unit) (get_or_past (sections_in bytes).records slot blank (omega (arith, past, records_count bytes)))
  ]

  module _ (sound : first_broken bytes ≡ None) where
    magic_holds : (has_magic bytes ≡ true) × (first_unmet ((Length, has_length bytes) ∷ (Pools, has_pools bytes) ∷ (UnusedPools, has_unused_pools bytes) ∷ (States, has_states bytes) ∷ rules_of_sections (sections_in bytes)) ≡ None)
    magic_holds = holds_first (has_magic bytes) Magic _ sound

    length_holds : (has_length bytes ≡ true) × (first_unmet ((Pools, has_pools bytes) ∷ (UnusedPools, has_unused_pools bytes) ∷ (States, has_states bytes) ∷ rules_of_sections (sections_in bytes)) ≡ None)
    length_holds = holds_first (has_length bytes) Length _ magic_holds.1

    pools_hold : (has_pools bytes ≡ true) × (first_unmet ((UnusedPools, has_unused_pools bytes) ∷ (States, has_states bytes) ∷ rules_of_sections (sections_in bytes)) ≡ None)
    pools_hold = holds_first (has_pools bytes) Pools _ length_holds.1

    pub sections_hold : first_unmet (rules_of_sections (sections_in bytes)) ≡ None
    sections_hold = (holds_first (has_states bytes) States _ (holds_first (has_unused_pools bytes) UnusedPools _ pools_hold.1).1).1

    pub ordered : are_pools (length (sections_in bytes).records) 0 (entries_of (sections_in bytes).pools) ≡ true
    ordered = ap (λ count. are_pools count 0 (entries_of (sections_in bytes).pools)) (records_count bytes) ∙ (and_parts (are_pools (two_at count_at bytes) 0 (entries_of (sections_in bytes).pools)) _ pools_hold.0).0

    module _ (cells : Cells) (loaded : HoldsSections (sections_in bytes) cells) where
      pools : cells.pools ≡ (sections_in bytes).pools
      pools = ap (λ (p : Sections). p.pools) loaded.held

      heads : cells.heads ≡ (sections_in bytes).heads
      heads = ap (λ (p : Sections). p.heads) loaded.held

      records : cells.records ≡ (sections_in bytes).records
      records = ap (λ (p : Sections). p.records) loaded.held

      pub loaded_stand : Stands cells
      loaded_stand = imaged_stand cells (record {
        unbroken = ap (λ p. first_unmet (rules_of_sections p)) loaded.held ∙ sections_hold;
        ordered = (λ i. are_pools (length (records i)) 0 (entries_of (pools i))) ∙ ordered;
        packed = pools ∙ packed_from (pool_of_bytes bytes) (two_at pools_at bytes) 0 most_pools ∙ ap (λ ps. padded (entries_of ps)) (sym pools);
        pools_count = ap length pools ∙ length-map-range_with_len (entry (pool_of_bytes bytes) (two_at pools_at bytes)) 0 most_pools;
        heads_count = ap length heads ∙ length-map-range_with_len (head_in bytes) 0 classes;
        words_count = loaded.words_count;
        bitmaps = loaded.bitmaps;
        in_units = λ slot. ap (λ rs. (record_at rs slot).size % unit) records ∙ in_units slot;
      })

      pub loaded_content : content_of cells ≡ described bytes
      unfolding content_of
      loaded_content = λ i. content_from (records i) (entries_of (pools i)) (heads i)
