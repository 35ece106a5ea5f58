-- free gives back one slot, and changes no other.
use Rattle.std.proofs.Common.{◌≡◌, ℕ, ◌+◌, ◌≤◌, true, false, cond, List, [], ◌∷◌, ◌++◌, map, sym, subst, arith, Option, Some, None, refl}
use Rattle.tlsf_heap.specs.Content.{Block, Pool, Content, blocks_of, is_at, size_at}
use Rattle.tlsf_heap.specs.Free.{free_previous, free_next, size_of, start_of, free_block, without_block, after_free}
use Rattle.tlsf_heap.specs.Malloc.{replaced, replaced_in}
use Rattle.tlsf_heap.specs.GoodSlots.{slot_times, HasGoodSlots}
use Rattle.tlsf_heap.proofs.Content.Replacing.{blocks_of-replaced}
use Rattle.tlsf_heap.proofs.Good.Slots.{slot_times-cons, slot_times-append, slots_fewer}

module _ (slot : ℕ) where
  -- a block that gives way to others of no slot
  replaced_slots : (place : ℕ) (others blocks : List (Block ℕ)) → slot_times slot others ≡ 0 → slot_times slot (replaced place others blocks) ≤ slot_times slot blocks
  replaced_slots place others [] none = omega arith
  replaced_slots place others (block ∷ blocks) none =
      let rest = replaced_slots place others blocks none in
      let old = slot_times-append slot (block ∷ []) blocks in
      elim (is_at place block) as (λ b. slot_times slot (cond b others (block ∷ []) ++ replaced place others blocks) ≤ slot_times slot (block ∷ blocks)) [
        | true ↦ omega (arith, slot_times-append slot others (replaced place others blocks), none, old, rest)
        | false ↦ omega (arith, slot_times-append slot (block ∷ []) (replaced place others blocks), old, rest)
      ]

  pools_slots : (place : ℕ) (others : List (Block ℕ)) (pools : List (Pool ℕ)) → slot_times slot others ≡ 0 → slot_times slot (blocks_of (map (replaced_in place others) pools)) ≤ slot_times slot (blocks_of pools)
  pools_slots place others pools none =
      let P : List (Block ℕ) → Type 0 = λ blocks. slot_times slot blocks ≤ slot_times slot (blocks_of pools) in
      subst P (sym (blocks_of-replaced place others pools)) (replaced_slots place others (blocks_of pools) none)

  without_slots : (block : Option (Block ℕ)) (pools : List (Pool ℕ)) → slot_times slot (blocks_of (without_block block pools)) ≤ slot_times slot (blocks_of pools)
  without_slots None pools = omega arith
  without_slots (Some block) pools = pools_slots block.place [] pools (omega arith)

  free_slots : (place start size : ℕ) (front back : Option (Block ℕ)) (pools : List (Pool ℕ))
      → slot_times slot (blocks_of (map (replaced_in place (free_block start size ∷ [])) (without_block back (without_block front pools)))) ≤ slot_times slot (blocks_of pools)
  free_slots place start size front back pools =
      omega (
        arith,
        pools_slots place (free_block start size ∷ []) (without_block back (without_block front pools)) (omega (arith, slot_times-cons slot (free_block start size) [])),
        without_slots back (without_block front pools),
        without_slots front pools,
      )

pub after_free_slots : (place : ℕ) (content : Content ℕ) → HasGoodSlots content → HasGoodSlots (after_free place content)
after_free_slots place content slots =
    let front = free_previous place content in
    let back = free_next place content in
    let size = size_of front + size_at place (blocks_of content.pools) + size_of back in
    let fewer : (slot : ℕ) → slot_times slot (blocks_of (after_free place content).pools) ≤ slot_times slot (blocks_of content.pools) = λ slot. free_slots slot place (start_of front place) size front back content.pools in
    slots_fewer content (after_free place content) refl fewer slots
