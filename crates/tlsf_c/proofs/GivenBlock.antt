-- What is known of a block that malloc or memalign gave: its size, that it lies in a pool, and its figures.
use Rattle.std.proofs.Common.{◌≡◌, ℕ, ◌+◌, ◌*◌, ◌/◌, ◌%◌, true, map, refl, ap, ◌∙◌, subst, arith, Ok, IfOk}
use Rattle.std.specs.Prelude.{◌==◌}
use Rattle.std.proofs.lemmas.Bool.{eq-eqb}
use Rattle.tlsf_class.proofs.RoundingLaws.{round-Some}
use Rattle.tlsf_heap.specs.Content.{Content, blocks_of, size_at}
use Rattle.tlsf_heap.specs.Counted.{range_of}
use Rattle.tlsf_heap.specs.Free.{is_live}
use Rattle.tlsf_heap.specs.Good.{IsGood}
use Rattle.tlsf_heap.specs.Memalign.{memalign}
use Rattle.tlsf_heap.specs.OwnClass.{malloc_or_own}
use Rattle.tlsf_heap.specs.Pointer.{Pointer, block_size_ptr}
use Rattle.tlsf_heap.proofs.Good.GivenSizes.{AreRounded, memalign_sized}
use Rattle.tlsf_heap.proofs.Good.AlignedStaysLive.{aligned_gives, live_aligned}
use Rattle.tlsf_heap.proofs.Good.LiveBlocks.{live_here, size_here}
use Rattle.tlsf_heap.proofs.Good.OwnClass.{or_own_live, or_own_sized, or_own_gives}
use Rattle.tlsf_heap.proofs.Good.StaysLive.{Gives}
use Rattle.tlsf_region.proofs.Ranges.{ranges, malloc_or_own_ranges, memalign_ranges}
use Rattle.tlsf_c.specs.Lying.{LiesIn}
use Rattle.tlsf_c.proofs.LiveBlock.{live_lies}
use Rattle.tlsf_c.proofs.ResizedBlock.{live_units}

-- a call gave the block for these bytes
pub record IsGiven (bytes : ℕ) (ptr : Pointer) (old new : Content ℕ) : Type 0 where
  pub gives : Gives ptr.slot ptr.place old new
  pub live : is_live (λ slot. slot == ptr.slot) ptr.place (blocks_of new.pools) ≡ true
  pub sized : AreRounded bytes ptr.place new
  pub same_ranges : ranges new ≡ ranges old

pub or_own_given : (bytes : ℕ) (ptr : Pointer) (old new : Content ℕ) → IsGood old → malloc_or_own ptr.slot bytes old ≡ Ok (ptr.place, new) → IsGiven bytes ptr old new
or_own_given bytes ptr old new good served = record {
  gives = or_own_gives old good ptr.slot bytes (ptr.place, new) served;
  live = or_own_live old good ptr.slot bytes (ptr.place, new) served (λ slot. slot == ptr.slot) (eq-eqb ptr.slot ptr.slot refl);
  sized = or_own_sized old good ptr.slot bytes (ptr.place, new) served;
  same_ranges = subst (λ answer. IfOk answer (λ given. ranges given.1 ≡ ranges old)) served (malloc_or_own_ranges ptr.slot bytes old);
}

pub aligned_given : (align bytes : ℕ) (ptr : Pointer) (old new : Content ℕ) → IsGood old → memalign ptr.slot align bytes old ≡ Ok (ptr.place, new) → IsGiven bytes ptr old new
aligned_given align bytes ptr old new good served = record {
  gives = aligned_gives (λ slot. slot == ptr.slot) ptr.slot align bytes old new ptr.place good served;
  live = live_aligned (λ slot. slot == ptr.slot) ptr.slot align bytes old new ptr.place good served (eq-eqb ptr.slot ptr.slot refl);
  sized = memalign_sized ptr.slot align bytes old (ptr.place, new) good served;
  same_ranges = subst (λ answer. IfOk answer (λ given. ranges given.1 ≡ ranges old)) served (memalign_ranges ptr.slot align bytes old);
}

module _ (bytes : ℕ) (ptr : Pointer) (old new : Content ℕ) (good : IsGood new) (is : IsGiven bytes ptr old new) where
  pub given_size : block_size_ptr ptr new ≡ Ok ((bytes + 15) / 16 * 16)
  given_size =
      let told : block_size_ptr ptr new ≡ Ok (size_at ptr.place (blocks_of new.pools)) = rw is.live refl in
      let here = live_here (λ slot. slot == ptr.slot) ptr.place new is.live in
      let rounded = is.sized here.0 here.1 here.3 here.2 in
      let rounds = round-Some bytes rounded.0 rounded.1 in
      let size = size_here ptr.place new here.0 good here.1 here.2 in
      let value : size_at ptr.place (blocks_of new.pools) ≡ (bytes + 15) / 16 * 16 = omega (arith, size, rounded.2, rounds.whole, rounds.least, rounds.near) in
      told ∙ ap (λ (size : ℕ). Ok size) value

  pub given_lies : LiesIn ptr.place ((bytes + 15) / 16 * 16) (map range_of old.pools)
  given_lies = subst (LiesIn ptr.place ((bytes + 15) / 16 * 16)) is.same_ranges (live_lies ptr ((bytes + 15) / 16 * 16) new good given_size)

  pub given_in_units : ptr.place % 16 ≡ 0
  given_in_units = (live_units ptr ((bytes + 15) / 16 * 16) new good given_size).place
