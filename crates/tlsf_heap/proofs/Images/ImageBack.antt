-- The sections of the bytes that were written of sections are these sections.
use Rattle.std.proofs.Common.{◌≡◌, ℕ, ◌%◌, ◌<◌, true, false, List, length, refl, sym, ap, ◌∙◌, subst, arith, Option, Some, None, inl, inr}
use Rattle.std.specs.Prelude.{nat_lt, is_some, if◌then◌else◌}
use Rattle.std.proofs.lemmas.Bool.{cases_Bool}
use Rattle.std.proofs.lemmas.List.{ext_get_or}
use Rattle.std.proofs.lemmas.List.FromFn.{length-map-range_with_len}
use Rattle.tlsf_class.specs.Classes.{unit, classes}
use Rattle.tlsf_store.specs.declared.records.State.{State}
use Rattle.tlsf_store.specs.declared.records.State.TheVariants.{Vacant, Free, Live}
use Rattle.tlsf_store.specs.declared.pools.Pool.{Pool}
use Rattle.tlsf_store.specs.Records.{blank, record_at}
use Rattle.tlsf_store.specs.Cells.{head_at as head_of, pool_at, most_pools}
use Rattle.tlsf_heap.specs.Images.Image.{two_at, count_at, pools_at, pool_in, head_in, record_in, sections_in, Sections}
use Rattle.tlsf_heap.specs.Images.Rules.{is_used}
use Rattle.tlsf_heap.specs.Images.Writing.{bytes_in, image_of}
use Rattle.tlsf_heap.proofs.Images.WritingLemmas.{two_back}
use Rattle.tlsf_heap.proofs.Images.ReadBack.{IsWritten, LinksFit, head_back, pool_back, block_back, vacant_back}
use Rattle.tlsf_heap.proofs.Images.ImageLemmas.{records_count, record_read, head_read, pool_read}
use Rattle.tlsf_heap.specs.Inner.Entries.{entries_of}

-- what sections have to be for their bytes to be read as they are
pub record AreWritable (sections : Sections) : Type 0 where
  pub pools_count : length sections.pools ≡ most_pools
  pub heads_count : length sections.heads ≡ classes
  pub packed : (number : ℕ) → number < most_pools → is_some (pool_at sections.pools number) ≡ nat_lt number (length (entries_of sections.pools))
  pub heads : (class : ℕ) → class < classes → IsWritten (head_of sections.heads class)
  pub blocks : (slot : ℕ) → slot < length sections.records → is_used (record_at sections.records slot).state ≡ true → LinksFit (record_at sections.records slot) × ((record_at sections.records slot).size % unit ≡ 0)
  pub vacant : (slot : ℕ) → slot < length sections.records → is_used (record_at sections.records slot).state ≡ false → record_at sections.records slot ≡ blank

pub the_one : (pool : Option Pool) → is_some pool ≡ true → (one : Pool) × (pool ≡ Some one)
the_one None is = absurd (cc)
the_one (Some one) is = (one, refl)

pub not_one : (pool : Option Pool) → is_some pool ≡ false → pool ≡ None
not_one None is = refl
not_one (Some one) is = absurd (cc)

module _ (sections : Sections) (writable : AreWritable sections) where
  abbrev image : List ℕ
  image = image_of sections

  pub count_back : two_at count_at image ≡ length sections.records
  count_back = two_back (length sections.records)

  pub pools_back : two_at pools_at image ≡ length (entries_of sections.pools)
  pools_back = two_back (length (entries_of sections.pools))

  pool_same : (number : ℕ) → number < most_pools → pool_at (sections_in image).pools number ≡ pool_at sections.pools number
  pool_same number within =
      let read = pool_read image number within ∙ ap (λ count. if nat_lt number count then Some (pool_in image number) else None) pools_back in
      let packed = writable.packed number within in
      elim (cases_Bool (nat_lt number (length (entries_of sections.pools)))) [
        | inl below ↦
            let one = the_one (pool_at sections.pools number) (packed ∙ below) in
            read ∙ ap (λ b. if b then Some (pool_in image number) else None) below ∙ ap Some (pool_back sections writable.pools_count writable.heads_count number one.0 within one.1) ∙ sym one.1
        | inr past ↦ read ∙ ap (λ b. if b then Some (pool_in image number) else None) past ∙ sym (not_one (pool_at sections.pools number) (packed ∙ past))
      ]

  record_same : (slot : ℕ) → slot < length sections.records → record_in image slot ≡ record_at sections.records slot
  record_same slot within = by_state (record_at sections.records slot).state refl
    where
      by_state : (state : State) → (record_at sections.records slot).state ≡ state → record_in image slot ≡ record_at sections.records slot
      by_state Vacant is =
          let r = record_at sections.records slot in
          vacant_back sections writable.pools_count writable.heads_count slot within (ap (λ s. bytes_in s r) is) ∙ sym (writable.vacant slot within (ap is_used is))
      by_state Free is =
          let r = record_at sections.records slot in
          let block = writable.blocks slot within (ap is_used is) in
          block_back sections writable.pools_count writable.heads_count slot 1 r within (ap (λ s. bytes_in s r) is) (omega arith) (omega arith) block.1 block.0 ∙ ap (λ (s : State). record r { state = s }) (sym is)
      by_state Live is =
          let r = record_at sections.records slot in
          let block = writable.blocks slot within (ap is_used is) in
          block_back sections writable.pools_count writable.heads_count slot 2 r within (ap (λ s. bytes_in s r) is) (omega arith) (omega arith) block.1 block.0 ∙ ap (λ (s : State). record r { state = s }) (sym is)

  pub sections_back : sections_in image ≡ sections
  sections_back =
      let count = records_count image ∙ count_back in
      let entries_count : length (sections_in image).pools ≡ most_pools = length-map-range_with_len (λ number. if nat_lt number (two_at pools_at image) then Some (pool_in image number) else None) 0 most_pools in
      let pools : (sections_in image).pools ≡ sections.pools =
      ext_get_or None (sections_in image).pools sections.pools (entries_count ∙ sym writable.pools_count) (λ k within. pool_same k (subst (λ (n : ℕ). k < n) entries_count within)) in
      let heads : (sections_in image).heads ≡ sections.heads =
      ext_get_or None (sections_in image).heads sections.heads (length-map-range_with_len (head_in image) 0 classes ∙ sym writable.heads_count)
      (λ k within. let below : k < classes = subst (λ (n : ℕ). k < n) (length-map-range_with_len (head_in image) 0 classes) within in head_read image k below ∙ head_back sections writable.pools_count writable.heads_count k below (writable.heads k below)) in
      let records : (sections_in image).records ≡ sections.records =
      ext_get_or blank (sections_in image).records sections.records count
      (λ k within. record_read image k (subst (λ (n : ℕ). k < n) (records_count image) within) ∙ record_same k (subst (λ (n : ℕ). k < n) count within)) in
      λ i. record { pools = pools i; heads = heads i; records = records i }
