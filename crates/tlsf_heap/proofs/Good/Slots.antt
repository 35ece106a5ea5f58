-- create, add_pool, malloc and memalign keep the live slots distinct, and below the number of records.
use Rattle.std.proofs.Common.{◌≡◌, ℕ, ◌+◌, ◌-◌, ◌<◌, Bool, true, false, cond, List, [], ◌∷◌, ◌++◌, map, refl, ap, subst, arith, count_by, Option, Some, None, inl, inr, ◌≤◌}
use Rattle.std.specs.Prelude.{◌==◌, is_none}
use Rattle.std.proofs.lemmas.Bool.{cases_Bool, eqb-true, ne_eqb}
use Rattle.tlsf_heap.specs.Content.{Block, Pool, Content, blocks_of, size_at}
use Rattle.tlsf_heap.specs.Lists.{pick}
use Rattle.tlsf_heap.specs.Malloc.{gap, split, replaced_in, allocated}
use Rattle.tlsf_heap.specs.Memalign.{split_in_three, aligned}
use Rattle.tlsf_heap.specs.Pools.{created, with_pool}
use Rattle.tlsf_heap.specs.Good.{IsGood}
use Rattle.tlsf_heap.specs.GoodSlots.{is_slot, slot_times, HasGoodSlots}
use Rattle.tlsf_heap.proofs.Counts.{count-cons, count-append, one_if}
use Rattle.tlsf_heap.proofs.Content.Replacing.{blocks_of-replaced, count_by-replaced}
use Rattle.tlsf_heap.proofs.Good.MallocIsGood.{picked, count_by-pools}

-- whether the block has the slot
abbrev has : ℕ → Block ℕ → Bool
has slot block = is_slot slot block.owner

free_has_none : (slot : ℕ) (owner : Option ℕ) → is_none owner ≡ true → is_slot slot owner ≡ false
free_has_none slot None h = refl
free_has_none slot (Some owner) h = absurd (cc)

pub slot_times-cons : (slot : ℕ) (block : Block ℕ) (blocks : List (Block ℕ)) → slot_times slot (block ∷ blocks) ≡ one_if (is_slot slot block.owner) + slot_times slot blocks
slot_times-cons slot block blocks = count-cons (has slot) block blocks

pub slot_times-append : (slot : ℕ) (blocks more : List (Block ℕ)) → slot_times slot (blocks ++ more) ≡ slot_times slot blocks + slot_times slot more
slot_times-append slot blocks more = count-append (has slot) blocks more

slot_times-gap : (slot place size : ℕ) → slot_times slot (gap place size) ≡ 0
slot_times-gap slot place size =
    let rest : Block ℕ = record { place = place; size = size; owner = None } in
    elim (size == 0) as (λ b. slot_times slot (cond b [] (rest ∷ [])) ≡ 0) [ true ↦ refl | false ↦ slot_times-cons slot rest [] ]

pub slot_times-split : (slot owner place m size : ℕ) → slot_times slot (split owner place m size) ≡ one_if (owner == slot)
slot_times-split slot owner place m size =
    omega (arith, slot_times-cons slot (record { place = place; size = m; owner = Some owner }) (gap (place + m) (size - m)), slot_times-gap slot (place + m) (size - m))

-- a heap that was just created has no live block
pub created_slots : (records : ℕ) → HasGoodSlots (created records)
created_slots records = record { distinct = λ slot. omega arith; below = λ slot above. refl }

-- a pool more has no live block
pub with_pool_slots : (base bytes : ℕ) (content : Content ℕ) → HasGoodSlots content → HasGoodSlots (with_pool base bytes content)
with_pool_slots base bytes content good =
    let pool : Pool ℕ = record { base = base; bytes = bytes; blocks = gap base bytes } in
    record {
      distinct = λ slot. omega (arith, count_by-pools (has slot) pool content.pools, slot_times-gap slot base bytes, good.distinct slot);
      below = λ slot above. omega (arith, count_by-pools (has slot) pool content.pools, slot_times-gap slot base bytes, good.below slot above);
    }

-- one live block more, with a slot that none had
pub slots_given : (owner : ℕ) (old new : Content ℕ) → new.records ≡ old.records → ((slot : ℕ) → slot_times slot (blocks_of new.pools) ≡ slot_times slot (blocks_of old.pools) + one_if (owner == slot))
    → HasGoodSlots old → owner < old.records → slot_times owner (blocks_of old.pools) ≡ 0 → HasGoodSlots new
slots_given owner old new same counts slots within unused = record {
  distinct = λ slot. elim (cases_Bool (owner == slot)) [
    | inl here ↦
        let none : slot_times slot (blocks_of old.pools) ≡ 0 = (let P : ℕ → Type 0 = λ s. slot_times s (blocks_of old.pools) ≡ 0 in subst P (eqb-true owner slot here) unused) in
        omega (arith, counts slot, ap one_if here, none)
    | inr other ↦ omega (arith, counts slot, ap one_if other, slots.distinct slot)
  ];
  below = λ slot above.
      let other : (owner == slot) ≡ false = ne_eqb owner slot (λ e. absurd (omega (arith, e, above, within, same))) in
      omega (arith, counts slot, ap one_if other, slots.below slot (omega (arith, above, same)));
}

-- no more live blocks of any slot
pub slots_fewer : (old new : Content ℕ) → new.records ≡ old.records → ((slot : ℕ) → slot_times slot (blocks_of new.pools) ≤ slot_times slot (blocks_of old.pools)) → HasGoodSlots old → HasGoodSlots new
slots_fewer old new same fewer slots = record {
  distinct = λ slot. omega (arith, fewer slot, slots.distinct slot);
  below = λ slot above. omega (arith, fewer slot, slots.below slot (omega (arith, above, same)));
}

slot_times-split_in_three : (slot owner start m place size : ℕ) → slot_times slot (split_in_three owner start m place size) ≡ one_if (owner == slot)
slot_times-split_in_three slot owner start m place size =
    omega (
      arith,
      slot_times-append slot (gap place (start - place)) (split owner start m (size - (start - place))),
      slot_times-gap slot place (start - place),
      slot_times-split slot owner start m (size - (start - place)),
    )

module _ (owner m place : ℕ) (content : Content ℕ) (good : IsGood content) (is : pick m content.lists ≡ Some place) where
  abbrev size : ℕ
  size = size_at place (blocks_of content.pools)

  -- the block that was picked was free, and gives way to others of which one has the slot
  slots_replaced : (others : List (Block ℕ)) (lists : List (List ℕ)) → ((slot : ℕ) → slot_times slot others ≡ one_if (owner == slot)) → HasGoodSlots content → owner < content.records → slot_times owner (blocks_of content.pools) ≡ 0
      → HasGoodSlots (record content { pools = map (replaced_in place others) content.pools; lists = lists })
  slots_replaced others lists given slots within unused =
      let found = picked m place content good is in
      slots_given owner content (record content { pools = map (replaced_in place others) content.pools; lists = lists }) refl
      (λ slot. omega (
        arith,
        ap (count_by (has slot)) (blocks_of-replaced place others content.pools),
        count_by-replaced place others (blocks_of content.pools) (has slot) found.found,
        ap one_if (free_has_none slot found.found.block.owner found.free),
        given slot,
      )) slots within unused

  -- a slot that no live block has, given to the block that was picked
  pub allocated_slots : HasGoodSlots content → owner < content.records → slot_times owner (blocks_of content.pools) ≡ 0 → HasGoodSlots (allocated owner place m size content)
  allocated_slots slots within unused = slots_replaced (split owner place m size) (allocated owner place m size content).lists (λ slot. slot_times-split slot owner place m size) slots within unused

  -- the same where it was split for an alignment
  pub aligned_slots : (start n : ℕ) → HasGoodSlots content → owner < content.records → slot_times owner (blocks_of content.pools) ≡ 0 → HasGoodSlots (aligned owner start n place size content)
  aligned_slots start n slots within unused = slots_replaced (split_in_three owner start n place size) (aligned owner start n place size content).lists (λ slot. slot_times-split_in_three slot owner start n place size) slots within unused
