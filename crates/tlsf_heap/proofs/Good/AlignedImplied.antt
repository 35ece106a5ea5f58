-- What a refusal of memalign implies of the free blocks and of the number of records.
use Rattle.std.proofs.Common.{◌≡◌, ◌≢◌, ℕ, ◌<◌, ◌-◌, arith, Err}
use Rattle.std.specs.Int.{next_multiple_of}
use Rattle.tlsf_heap.specs.declared.refusal.Refusal.TheVariants.{NoFit, TableFull, OutOfMemory}
use Rattle.tlsf_heap.specs.Content.{Content, blocks_of, size_at, used_records}
use Rattle.tlsf_heap.specs.Memalign.{size_asked, memalign}
use Rattle.tlsf_heap.specs.Good.{IsGood}
use Rattle.tlsf_heap.specs.Implied.{NoneFitsAligned, HasFewRecordsAndOne}
use Rattle.tlsf_heap.proofs.Good.MallocIsGood.{picked}
use Rattle.tlsf_heap.proofs.Good.Implied.{none_picked, few_blocks}
use Rattle.tlsf_heap.proofs.Content.MemalignCases.{few_gap, used_aligned, IsPicked, split_aligned_of, memalign_cases}

module _ {A : Type 0} where
  module _ (owner : A) (align n : ℕ) (content : Content A) (good : IsGood content) where
    -- where memalign finds no fit, no free block is of the class needed for what is asked of the lists
    pub aligned_no_fit : memalign owner align n content ≡ Err NoFit → NoneFitsAligned align n content
    aligned_no_fit =
        memalign_cases owner align n content (λ r. r ≡ Err NoFit → NoneFitsAligned align n content)
        (λ e. absurd (cc)) (λ nothing e. absurd (cc)) (λ none e m c rounds needed. none_picked (size_asked align m) c content good (none m rounds) needed) (λ p over e. absurd (cc)) (λ p room e. absurd (cc))

    -- a split in three makes at most two blocks more
    too_many : (p : IsPicked owner align n content) → content.records < used_records (split_aligned_of owner align n content p) → HasFewRecordsAndOne content
    too_many p over =
        let size : ℕ = size_at p.place (blocks_of content.pools) in
        let front : ℕ = next_multiple_of p.place align - p.place in
        omega (
          arith,
          over,
          used_aligned owner (next_multiple_of p.place align) p.asked p.place size content (picked (size_asked align p.asked) p.place content good p.found).found,
          few_gap front,
          few_gap ((size - front) - p.asked),
          few_blocks content.pools 0 good.pools_good,
        )

    -- where it finds the table full, there are few records
    pub aligned_full : memalign owner align n content ≡ Err TableFull → HasFewRecordsAndOne content
    aligned_full =
        memalign_cases owner align n content (λ r. r ≡ Err TableFull → HasFewRecordsAndOne content)
        (λ e. absurd (cc)) (λ nothing e. absurd (cc)) (λ none e. absurd (cc)) (λ p over e. too_many p over) (λ p room e. absurd (cc))

    -- it is never refused for want of memory
    pub aligned_lacks_none : memalign owner align n content ≢ Err OutOfMemory
    aligned_lacks_none = memalign_cases owner align n content (λ r. r ≢ Err OutOfMemory) (λ e. cc) (λ nothing e. cc) (λ none e. cc) (λ p over e. cc) (λ p room e. cc)
