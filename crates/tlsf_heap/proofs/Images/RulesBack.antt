-- The bytes that were written of sections break no rule that the sections don't.
use Rattle.std.proofs.Common.{◌≡◌, ℕ, zero, suc, ◌+◌, ◌-◌, ◌*◌, ◌/◌, ◌%◌, ◌<◌, ◌≤◌, Bool, true, List, length, replicate, refl, ap, ◌∙◌, subst, arith, Option, Some, None}
use Rattle.std.specs.Prelude.{slice_index, nat_lt, nat_le, nat_eq, ◌==◌}
use Rattle.std.specs.List.{list_all, range_with_len}
use Rattle.std.proofs.lemmas.Bool.{and_from, eq-eqb, lt-ltb, le-ltb, le-leb, or_right, or_left}
use Rattle.std.proofs.lemmas.List.{get_or-replicate}
use Rattle.tlsf_class.specs.Classes.{unit}
use Rattle.tlsf_store.specs.declared.records.State.{State}
use Rattle.tlsf_store.specs.declared.records.State.TheVariants.{Vacant, Free, Live}
use Rattle.tlsf_store.specs.declared.pools.Pool.{Pool}
use Rattle.tlsf_store.specs.Records.{record_at}
use Rattle.tlsf_store.specs.Cells.{pool_at, most_pools}
use Rattle.tlsf_heap.specs.Images.Image.{two_at, are_zero, count_at, pools_at, zeros_at, entry_at, record_start, size_word, sections_in, Sections}
use Rattle.tlsf_heap.specs.Images.Rules.{is_used, are_pools, has_magic, has_length, has_pools, has_unused_pools, has_state, has_states, IsReadable, first_unmet, rules_of_sections, first_broken}
use Rattle.tlsf_heap.specs.Images.Writing.{bytes_in, record_bytes, entry_bytes, image_of}
use Rattle.tlsf_heap.proofs.Images.WritingLemmas.{image_long, entry_byte, record_byte}
use Rattle.tlsf_heap.proofs.Images.ReadBack.{code_is, zero_code}
use Rattle.tlsf_heap.proofs.Images.ImageBack.{AreWritable, the_one, not_one, count_back, pools_back, sections_back}
use Rattle.tlsf_heap.proofs.Images.ImageLemmas.{first_left}
use Rattle.tlsf_heap.specs.Inner.Entries.{entries_of}

-- what passes for each number of a range passes for all
all_of : (test : ℕ → Bool) (from count : ℕ) → ((i : ℕ) → i < count → test (from + i) ≡ true) → list_all test (range_with_len from count) ≡ true
all_of test from zero each = refl
all_of test from (suc count) each =
    let first : from + 0 ≡ from = omega arith in
    and_from (test from) (list_all test (range_with_len (from + 1) count)) (subst (λ n. test n ≡ true) first (each 0 (omega arith)))
    (all_of test (from + 1) count (λ i within. let later : from + suc i ≡ from + 1 + i = omega arith in subst (λ n. test n ≡ true) later (each (suc i) (omega (arith, within)))))

module _ (sections : Sections) (writable : AreWritable sections) (some : 0 < length sections.records) (ordered : are_pools (length sections.records) 0 (entries_of sections.pools) ≡ true) (few_pools : length (entries_of sections.pools) ≤ most_pools) where
  abbrev image : List ℕ
  image = image_of sections

  abbrev count : ℕ
  count = length sections.records

  abbrev pools : ℕ
  pools = length (entries_of sections.pools)

  long : length image ≡ record_start count
  long = image_long sections writable.pools_count writable.heads_count

  magic : has_magic image ≡ true
  magic = and_from (nat_le (record_start 0) (length image)) true (le-leb (record_start 0) (length image) (omega (arith, long))) refl

  whole : has_length image ≡ true
  whole =
      let counted = count_back sections writable in
      let pooled = pools_back sections writable in
      and_from (nat_lt 0 (two_at count_at image)) _ (lt-ltb 0 (two_at count_at image) (omega (arith, counted, some)))
      (and_from (nat_le (two_at pools_at image) most_pools) _ (le-leb (two_at pools_at image) most_pools (omega (arith, pooled, few_pools)))
      (and_from (are_zero zeros_at 4 image) (length image == record_start (two_at count_at image)) refl (eq-eqb (length image) (record_start (two_at count_at image)) (omega (arith, long, counted)))))

  zero_byte : (entry : Option Pool) (number j : ℕ) → number < most_pools → j < 12 → pool_at sections.pools number ≡ entry → slice_index (entry_bytes entry) j ≡ 0 → nat_eq (slice_index image (entry_at number + j)) 0 ≡ true
  zero_byte entry number j within below is zeros =
      eq-eqb (slice_index image (entry_at number + j)) 0 (entry_byte sections writable.pools_count writable.heads_count number j within below ∙ ap (λ e. slice_index (entry_bytes e) j) is ∙ zeros)

  entry_end : (number : ℕ) → number < pools → are_zero (entry_at number + 10) 2 image ≡ true
  entry_end number within =
      let there = the_one (pool_at sections.pools number) (writable.packed number (omega (arith, within, few_pools)) ∙ lt-ltb number pools within) in
      let below : number < most_pools = omega (arith, within, few_pools) in
      let next : entry_at number + 11 ≡ entry_at number + 10 + 1 = omega arith in
      and_from (nat_eq (slice_index image (entry_at number + 10)) 0) _ (zero_byte (Some there.0) number 10 below (omega arith) there.1 refl)
      (and_from (nat_eq (slice_index image (entry_at number + 10 + 1)) 0) true (subst (λ at. nat_eq (slice_index image at) 0 ≡ true) next (zero_byte (Some there.0) number 11 below (omega arith) there.1 refl)) refl)

  entries : has_pools image ≡ true
  entries =
      and_from (are_pools (two_at count_at image) 0 (entries_of (sections_in image).pools)) _
      (ap (λ (n : ℕ). are_pools n 0 (entries_of (sections_in image).pools)) (count_back sections writable) ∙ ap (λ (p : Sections). are_pools count 0 (entries_of p.pools)) (sections_back sections writable) ∙ ordered)
      (ap (λ (n : ℕ). list_all (λ number. are_zero (entry_at number + 10) 2 image) (range_with_len 0 n)) (pools_back sections writable)
      ∙ all_of (λ number. are_zero (entry_at number + 10) 2 image) 0 pools (λ i within. let same : 0 + i ≡ i = omega arith in ap (λ number. are_zero (entry_at number + 10) 2 image) same ∙ entry_end i within))

  unused : has_unused_pools image ≡ true
  unused =
      ap (λ (n : ℕ). are_zero (entry_at n) (12 * (most_pools - n)) image) (pools_back sections writable)
      ∙ all_of (λ k. slice_index image k == 0) (entry_at pools) (12 * (most_pools - pools)) (λ i within.
      let number : ℕ = pools + i / 12 in
      let below : number < most_pools = omega (arith, within, few_pools) in
      let j : ℕ = i % 12 in
      let there : entry_at number + j ≡ entry_at pools + i = omega arith in
      let none = not_one (pool_at sections.pools number) (writable.packed number below ∙ le-ltb number pools (omega arith)) in
      subst (λ at. nat_eq (slice_index image at) 0 ≡ true) there (zero_byte None number j below (omega arith) none (get_or-replicate 12 j 0 0 (omega arith))))

  state_of_slot : (slot : ℕ) → slot < count → has_state image slot ≡ true
  state_of_slot slot within = by_state (record_at sections.records slot).state refl
    where
      by_state : (state : State) → (record_at sections.records slot).state ≡ state → has_state image slot ≡ true
      by_state Vacant is =
          let bytes : record_bytes (record_at sections.records slot) ≡ replicate 16 0 = ap (λ s. bytes_in s (record_at sections.records slot)) is in
          let code = zero_code sections writable.pools_count writable.heads_count slot within bytes in
          let zeros : are_zero (record_start slot) 16 image ≡ true = all_of (λ k. slice_index image k == 0) (record_start slot) 16
          (λ i below. eq-eqb (slice_index image (record_start slot + i)) 0 (record_byte sections writable.pools_count writable.heads_count slot i within below ∙ ap (λ b. slice_index b i) bytes ∙ get_or-replicate 16 i 0 0 below)) in
          and_from (nat_lt (size_word image slot % unit) 3) _ (lt-ltb (size_word image slot % unit) 3 (omega (arith, code))) (or_right (nat_lt 0 (size_word image slot % unit)) (are_zero (record_start slot) 16 image) zeros)
      by_state Free is =
          let block = writable.blocks slot within (ap is_used is) in
          let code = code_is sections writable.pools_count writable.heads_count slot 1 (record_at sections.records slot) within (ap (λ s. bytes_in s (record_at sections.records slot)) is) (omega arith) (omega arith) block.1 in
          and_from (nat_lt (size_word image slot % unit) 3) _ (lt-ltb (size_word image slot % unit) 3 (omega (arith, code))) (or_left (nat_lt 0 (size_word image slot % unit)) (are_zero (record_start slot) 16 image) (lt-ltb 0 (size_word image slot % unit) (omega (arith, code))))
      by_state Live is =
          let block = writable.blocks slot within (ap is_used is) in
          let code = code_is sections writable.pools_count writable.heads_count slot 2 (record_at sections.records slot) within (ap (λ s. bytes_in s (record_at sections.records slot)) is) (omega arith) (omega arith) block.1 in
          and_from (nat_lt (size_word image slot % unit) 3) _ (lt-ltb (size_word image slot % unit) 3 (omega (arith, code))) (or_left (nat_lt 0 (size_word image slot % unit)) (are_zero (record_start slot) 16 image) (lt-ltb 0 (size_word image slot % unit) (omega (arith, code))))

  states : has_states image ≡ true
  states =
      ap (λ (n : ℕ). list_all (has_state image) (range_with_len 0 n)) (count_back sections writable)
      ∙ all_of (has_state image) 0 count (λ i within. let same : 0 + i ≡ i = omega arith in ap (has_state image) same ∙ state_of_slot i within)

  pub written_readable : IsReadable image
  written_readable = record { magic = magic; length = whole; pools = entries; unused = unused; states = states }

  -- so the bytes break just the rules of the sections
  pub written_first : first_broken image ≡ first_unmet (rules_of_sections sections)
  written_first = first_left image written_readable ∙ ap (λ (p : Sections). first_unmet (rules_of_sections p)) (sections_back sections writable)
