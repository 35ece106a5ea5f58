-- Where realloc moves a block, the new one has room for the bytes of the old one.
use Rattle.std.proofs.Common.{◌≡◌, ◌≢◌, ℕ, ◌+◌, ◌≤◌, Bool, true, false, cond, not, List, length, refl, sym, ap, ◌∙◌, subst, arith, Option, Some, None, Result, Ok, Err, IfOk, IfSome}
use Rattle.std.specs.Prelude.{◌==◌, nat_lt, nat_le, ◌&&◌}
use Rattle.std.specs.List.{AllByRecursion}
use Rattle.std.proofs.lemmas.Bool.{ltb-false}
use Rattle.tlsf_class.specs.Rounding.{round}
use Rattle.tlsf_heap.specs.declared.refusal.Refusal.{Refusal}
use Rattle.tlsf_heap.specs.declared.refusal.Refusal.TheVariants.{TableFull, BadPointer}
use Rattle.tlsf_heap.specs.Content.{Content, blocks_of, size_at, used_records}
use Rattle.tlsf_heap.specs.Lists.{pick}
use Rattle.tlsf_heap.specs.Malloc.{allocated, malloc_picked, malloc_rounded}
use Rattle.tlsf_heap.specs.Free.{is_live, after_free}
use Rattle.tlsf_heap.specs.Realloc.{fits_in_place, resized, moved, realloc_sized, realloc_rounded, realloc}
use Rattle.tlsf_heap.specs.Good.{IsGood}
use Rattle.tlsf_heap.proofs.Good.MallocIsGood.{picked}
use Rattle.tlsf_heap.specs.BlockSize.{block_size}
use Rattle.tlsf_heap.specs.Pointer.{Pointer, place_and_slot, slot_of}
use Rattle.tlsf_region.specs.Region.{IsWithin}
use Rattle.tlsf_region.proofs.Ends.{IsBelow, found_is_below, below_in_pools}
use Rattle.tlsf_region.proofs.Sizes.{size_is}
use Rattle.tlsf_region.proofs.Ranges.{by_test, unless}

module _ {A : Type 0} (same : A → A → Bool) (owner known : A) (place n end : ℕ) (content : Content A) (good : IsGood content) (below : AllByRecursion (IsBelow end) (blocks_of content.pools)) where
  abbrev size : ℕ
  size = size_at place (blocks_of content.pools)

  -- there is room for the block's bytes, where the new block begins elsewhere
  abbrev HasRoom : Option (ℕ × A) × Content A → Type 0
  HasRoom given = IfSome given.0 (λ p. p.0 ≢ place → p.0 + size ≤ end)

  moved_room : (m : ℕ) → size ≤ m → IfOk (moved owner place (malloc_rounded owner (Some m) content)) HasRoom
  moved_room m least = of (pick m content.lists) refl
    where
      of : (found : Option ℕ) → pick m content.lists ≡ found → IfOk (moved owner place (malloc_picked owner m found content)) HasRoom
      of None is = tt
      of (Some at) is =
          let there = picked m at content good is in
          let ends = found_is_below end at (blocks_of content.pools) there.found below in
          let room : at + size ≤ end = omega (arith, ends, there.found.here, there.size_is, there.holds, least) in
          elim (nat_lt m (size_at at (blocks_of content.pools)) && nat_le content.records (used_records content)) as (λ b. IfOk (moved owner place (cond b (Err TableFull) (Ok (at, allocated owner at m (size_at at (blocks_of content.pools)) content)))) HasRoom) [
            | true ↦ tt
            | false ↦ (λ elsewhere. room)
          ]

  sized_room : (m : ℕ) → IfOk (realloc_sized owner place known m content) HasRoom
  sized_room m =
      let there : Result (Option (ℕ × A) × Content A) Refusal = Ok (Some (place, known), content) in
      let elsewhere = moved owner place (malloc_rounded owner (Some m) content) in
      by_test (m == size) there _ HasRoom (λ e other. absurd (other refl)) (λ e.
      by_test (fits_in_place place m content) (Ok (Some (place, known), resized known place m content)) (cond (nat_lt m size) there elsewhere) HasRoom (λ e other. absurd (other refl)) (λ e.
      by_test (nat_lt m size) there elsewhere HasRoom (λ e other. absurd (other refl)) (λ more. moved_room m (ltb-false m size more))))

  pub realloc_room : IfOk (realloc same owner (Some (place, known)) n content) HasRoom
  realloc_room =
      unless (not (is_live (λ other. same other known) place (blocks_of content.pools))) BadPointer _ HasRoom
      (by_test (n == 0) (Ok (None, after_free place content)) (realloc_rounded owner place known (round n) content) HasRoom (λ e. tt) (λ e. of (round n)))
    where
      of : (m : Option ℕ) → IfOk (realloc_rounded owner place known m content) HasRoom
      of None = tt
      of (Some m) = sized_room m

-- a region has room for the block that moves: its heap read the block's size first
pub room_there : (old new : Pointer) (n size : ℕ) (first second after : Content ℕ) (bytes : List ℕ) → second ≡ first → IsGood first → IsWithin second bytes
    → block_size (λ slot. slot == old.slot) old.place first ≡ Ok size → (pointer given : Option Pointer) → pointer ≡ Some old → given ≡ Some new
    → realloc (λ a b. a == b) (slot_of given) (place_and_slot pointer) n second ≡ Ok (place_and_slot given, after) → new.place ≢ old.place → new.place + size ≤ length bytes
room_there old new n size first second after bytes same good within told pointer given is_old is_new e elsewhere =
    let fine : IsGood second = subst (λ content. IsGood content) (sym same) good in
    let is = size_is old second size (ap (λ content. block_size (λ slot. slot == old.slot) old.place content) same ∙ told) in
    let below = below_in_pools (length bytes) 0 second.pools fine.pools_good within.pools in
    let asked : realloc (λ a b. a == b) new.slot (Some (old.place, old.slot)) n second ≡ Ok (Some (new.place, new.slot), after) =
    (λ i. realloc (λ a b. a == b) (slot_of (sym is_new i)) (place_and_slot (sym is_old i)) n second) ∙ e ∙ ap (λ o. Ok (place_and_slot o, after)) is_new in
    let room = subst (λ answer. IfOk answer (λ given. IfSome given.0 (λ p. p.0 ≢ old.place → p.0 + size_at old.place (blocks_of second.pools) ≤ length bytes))) asked
    (realloc_room (λ a b. a == b) new.slot old.slot old.place n (length bytes) second fine below) in
    omega (arith, is.1, room elsewhere)
