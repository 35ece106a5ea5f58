-- The live block that realloc leaves: it lies in a pool, in whole units, and has the bytes asked for.
use Rattle.std.proofs.Common.{◌≡◌, ◌≢◌, ℕ, ◌+◌, ◌%◌, ◌<◌, ◌≤◌, true, map, Option, Some, Ok, Err, refl, sym, ap, ◌∙◌, subst, arith}
use Rattle.std.specs.Prelude.{◌==◌, Result, List, Contains, false}
use Rattle.std.proofs.lemmas.Bool.{eq-eqb, ne_eqb}
use Rattle.std.proofs.lemmas.List.Elements.{recursion_from_All}
use Rattle.tlsf_class.specs.Classes.{greatest_size}
use Rattle.tlsf_class.specs.Rounding.{round}
use Rattle.tlsf_class.proofs.RoundingLaws.{round_above}
use Rattle.tlsf_heap.specs.declared.refusal.Refusal.{Refusal}
use Rattle.tlsf_heap.specs.declared.refusal.Refusal.TheVariants.{NoFit}
use Rattle.tlsf_heap.specs.Realloc.{realloc_rounded}
use Rattle.tlsf_heap.specs.Content.{Content, blocks_of, size_at}
use Rattle.tlsf_heap.specs.Counted.{range_of}
use Rattle.tlsf_heap.specs.Free.{is_live}
use Rattle.tlsf_heap.specs.Good.{IsGood}
use Rattle.tlsf_heap.specs.Implied.{IsAligned}
use Rattle.tlsf_heap.specs.Served.{IsMoved}
use Rattle.tlsf_heap.specs.Pointer.{Pointer, realloc_ptr, block_size_ptr}
use Rattle.tlsf_heap.proofs.Good.GivenSizes.{moved_holds}
use Rattle.tlsf_heap.proofs.Good.Implied.{has_aligned_blocks}
use Rattle.tlsf_heap.proofs.Good.LiveBlocks.{live_here, size_here}
use Rattle.tlsf_heap.proofs.Good.MallocIsGood.{IsWholeBlock, whole_in_pools}
use Rattle.tlsf_heap.proofs.Good.StaysLive.{live_moved}
use Rattle.tlsf_region.proofs.Ends.{live_is_there}
use Rattle.tlsf_region.proofs.Ranges.{reallocated_ranges}
use Rattle.tlsf_region.proofs.Sizes.{size_is}
use Rattle.tlsf_c.specs.Fronts.{front, told_size}
use Rattle.tlsf_c.specs.Lying.{LiesIn}
use Rattle.tlsf_c.specs.Status.{number, status_of}
use Rattle.tlsf_c.specs.PlacedPools.{IsAt}
use Rattle.tlsf_c.specs.PlacedHeaps.{IsLiveAt, told_block}
use Rattle.tlsf_c.specs.declared.placed_pool.PlacedPool.{PlacedPool}
use Rattle.tlsf_c.proofs.LiveBlock.{live_lies}

-- what is known of a live block of some bytes among these ranges of places
pub record IsInUnits (ptr : Pointer) (size : ℕ) : Type 0 where
  pub place : ptr.place % 16 ≡ 0
  pub size_in_units : size % 16 ≡ 0
  pub long : 16 ≤ size
  pub most : size ≤ greatest_size

pub live_units : (ptr : Pointer) (size : ℕ) (content : Content ℕ) → IsGood content → block_size_ptr ptr content ≡ Ok size → IsInUnits ptr size
live_units ptr size content good told =
    let is = size_is ptr content size told in
    let aligned = live_is_there IsAligned (λ slot. slot == ptr.slot) ptr.place (blocks_of content.pools) (recursion_from_All IsAligned (blocks_of content.pools) (has_aligned_blocks content good)) is.0 in
    let whole = live_is_there IsWholeBlock (λ slot. slot == ptr.slot) ptr.place (blocks_of content.pools) (whole_in_pools 0 content.pools good.pools_good) is.0 in
    record {
      place = subst (λ (p : ℕ). p % 16 ≡ 0) aligned.2 aligned.1.0;
      size_in_units = subst (λ (n : ℕ). n % 16 ≡ 0) (sym aligned.3 ∙ is.1) aligned.1.1;
      long = omega (arith, whole.3, is.1, whole.1.positive, whole.1.in_units);
      most = omega (arith, whole.3, is.1, whole.1.at_most);
    }

module _ (ptr given : Pointer) (n : ℕ) (old new : Content ℕ) (good : IsGood old) (served : realloc_ptr (Some ptr) n given.slot old ≡ Ok (Some (given.place, given.slot), new)) where
  still_live : is_live (λ slot. slot == given.slot) given.place (blocks_of new.pools) ≡ true
  still_live = live_moved (λ a b. a == b) given.slot ptr.slot ptr.place n old given.place given.slot new (λ a. eq-eqb a a refl) good served

  -- so its size is told
  pub size_told : (refusal : Refusal) → block_size_ptr given new ≡ Err refusal → ⊥
  size_told refusal refused = let is : block_size_ptr given new ≡ Ok (size_at given.place (blocks_of new.pools)) = rw still_live refl in cc

  pub same_ranges : map range_of new.pools ≡ map range_of old.pools
  same_ranges = reallocated_ranges given.slot (Some (ptr.place, ptr.slot)) n old new (Some (given.place, given.slot)) served

  module _ (good_now : IsGood new) (size : ℕ) (told : block_size_ptr given new ≡ Ok size) where
    pub holds_bytes : n ≤ size
    holds_bytes =
        let here = live_here (λ slot. slot == given.slot) given.place new still_live in
        let holds = moved_holds (λ a b. a == b) given.slot ptr.slot ptr.place n old good (Some (given.place, given.slot), new) served given.place given.slot refl here.0 here.1 here.3 here.2 in
        omega (arith, holds, size_here given.place new here.0 good_now here.1 here.2, (size_is given new size told).1)

    pub lies_still : LiesIn given.place size (map range_of old.pools)
    lies_still = subst (LiesIn given.place size) same_ranges (live_lies given size new good_now told)

-- what was served, where a block was given
pub served_some : (ptr given : Pointer) (n : ℕ) (old new : Content ℕ) (found : Option Pointer) → found ≡ Some given → IsMoved (realloc_ptr (Some ptr) n) (Some ptr) found old new → realloc_ptr (Some ptr) n given.slot old ≡ Ok (Some (given.place, given.slot), new)
served_some ptr given n old new found is moved = (subst (λ g. IsMoved (realloc_ptr (Some ptr) n) (Some ptr) g old new) is moved).ok

-- the block that was found is live at the address
abbrev pub found_live : (address word : ℕ) (ptr : Pointer) (pools : List PlacedPool) (content : Content ℕ) → ptr ≡ told_block ptr.place address word → (pool : PlacedPool) × Contains pools pool × IsAt pool ptr.place address → block_size_ptr ptr content ≡ Ok (told_size word address)
    → IsLiveAt address word pools content
found_live address word ptr pools content is there told = record {
  place = ptr.place;
  pool = there.0;
  of_pools = there.1;
  at = there.2;
  live = subst (λ (p : Pointer). block_size_ptr p content ≡ Ok (told_size word address)) is told;
}

-- no live block gets more than the greatest size
pub grows_above : (slot : ℕ) (ptr : Pointer) (bytes size : ℕ) (content : Content ℕ) → block_size_ptr ptr content ≡ Ok size → 1073741800 < bytes → realloc_ptr (Some ptr) (bytes + front) slot content ≡ Err NoFit
grows_above slot ptr bytes size content told above =
    let is = size_is ptr content size told in
    let some : (bytes + front == 0) ≡ false = ne_eqb (bytes + front) 0 (λ e. omega (arith, e)) in
    let asked : realloc_ptr (Some ptr) (bytes + front) slot content ≡ realloc_rounded slot ptr.place ptr.slot (round (bytes + front)) content = rw (is.0, some) refl in
    asked ∙ ap (λ r. realloc_rounded slot ptr.place ptr.slot r content) (round_above (bytes + front) (omega (arith, above)))

-- a status above 0 is the number of a refusal
pub refused_as : {X : Type 0} (answer : Result X Refusal) (status : ℕ) → status_of answer ≡ status → status ≢ 0 → (refusal : Refusal) × (status ≡ number refusal) × (answer ≡ Err refusal)
refused_as (Ok x) status is some = absurd (some (sym is))
refused_as (Err refusal) status is some = (refusal, sym is, refl)
