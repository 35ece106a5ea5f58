-- Which live blocks a good content has after memalign.
use Rattle.std.proofs.Common.{◌≡◌, ◌≢◌, ℕ, ◌-◌, Bool, true, subst, arith, Ok}
use Rattle.std.specs.Int.{next_multiple_of}
use Rattle.tlsf_heap.specs.Content.{Content, blocks_of, size_at}
use Rattle.tlsf_heap.specs.Malloc.{gap, split}
use Rattle.tlsf_heap.specs.Memalign.{size_asked, split_in_three, memalign}
use Rattle.tlsf_heap.specs.Free.{is_live}
use Rattle.tlsf_heap.specs.Good.{IsGood}
use Rattle.tlsf_heap.proofs.Counts.{count-append}
use Rattle.tlsf_heap.proofs.Content.MemalignCases.{IsPicked, memalign_given}
use Rattle.tlsf_heap.proofs.Meaning.AlignedIsGood.{memalign_is_good}
use Rattle.tlsf_heap.proofs.Meaning.Gaps.{gap_counts, split_counts}
use Rattle.tlsf_heap.proofs.Good.MallocIsGood.{picked}
use Rattle.tlsf_heap.proofs.Good.StaysLive.{Gives, picked_counts, given_is_live, live_still, given_apart}

module _ {A : Type 0} (is_meant : A → Bool) (owner : A) (align n : ℕ) (content new : Content A) (place : ℕ) (good : IsGood content) (gave : memalign owner align n content ≡ Ok (place, new)) where
  pub aligned_gives : Gives owner place content new
  aligned_gives =
      let given = memalign_given owner align n content (place, new) gave in
      let p : IsPicked owner align n content = given.0 in
      let start : ℕ = next_multiple_of p.place align in
      let size : ℕ = size_at p.place (blocks_of content.pools) in
      let left : ℕ = size - (start - p.place) in
      subst (λ (g : ℕ × Content A). Gives owner g.0 content g.1) given.1 (record {
        size = p.asked;
        counts = (λ test fails. omega (
          arith,
          picked_counts (size_asked align p.asked) p.place (split_in_three owner start p.asked p.place size) content (picked (size_asked align p.asked) p.place content good p.found) test fails,
          count-append test (gap p.place (start - p.place)) (split owner start p.asked left),
          gap_counts test fails p.place (start - p.place),
          split_counts test fails owner start p.asked left,
        ));
      })

  -- the block that memalign gave is live
  pub live_aligned : is_meant owner ≡ true → is_live is_meant place (blocks_of new.pools) ≡ true
  live_aligned meant = given_is_live is_meant owner place content new aligned_gives meant

  module _ (other : ℕ) (live : is_live is_meant other (blocks_of content.pools) ≡ true) where
    -- a live block is live after memalign
    pub live_through_memalign : is_live is_meant other (blocks_of new.pools) ≡ true
    live_through_memalign = live_still is_meant owner other place content new aligned_gives live

    -- which gave a block elsewhere
    pub aligned_elsewhere : place ≢ other
    aligned_elsewhere = given_apart is_meant owner other place content new aligned_gives (memalign_is_good owner align n content (place, new) good gave) live
