-- Where a block is free, a slot below the number of records is left.
use Rattle.std.proofs.Common.{◌≡◌, ℕ, zero, suc, ◌+◌, ◌<◌, ◌≤◌, true, false, List, [], ◌∷◌, length, refl, ap, arith, count_by, Option, Some, None, inl, inr}
use Rattle.std.specs.Prelude.{◌==◌, is_none}
use Rattle.std.specs.List.{list_any}
use Rattle.std.proofs.lemmas.Bool.{cases_Bool, eqb-true, ne_eqb, or_parts, or_cases}
use Rattle.tlsf_heap.specs.Content.{Block, Pool, blocks_of, is_free}
use Rattle.tlsf_heap.specs.GoodSlots.{is_slot, slot_times}
use Rattle.tlsf_heap.proofs.Counts.{count-cons, count-append, one_if}
use Rattle.tlsf_heap.proofs.Content.Blocks.{Found}
use Rattle.tlsf_heap.proofs.Good.Slots.{slot_times-cons, slot_times-append}

-- how many live blocks have a slot below n
abbrev total : ℕ → List (Block ℕ) → ℕ
total zero blocks = 0
total (suc n) blocks = slot_times n blocks + total n blocks

-- how many slots below n the owner has
abbrev hits : ℕ → Option ℕ → ℕ
hits zero owner = 0
hits (suc n) owner = one_if (is_slot n owner) + hits n owner

total-none : (n : ℕ) → total n [] ≡ 0
total-none zero = refl
total-none (suc n) = omega (arith, total-none n)

total-cons : (n : ℕ) (block : Block ℕ) (blocks : List (Block ℕ)) → total n (block ∷ blocks) ≡ hits n block.owner + total n blocks
total-cons zero block blocks = refl
total-cons (suc n) block blocks = omega (arith, slot_times-cons n block blocks, total-cons n block blocks)

hits-none : (n : ℕ) → hits n None ≡ 0
hits-none zero = refl
hits-none (suc n) = omega (arith, hits-none n)

hits-above : (n owner : ℕ) → n ≤ owner → hits n (Some owner) ≡ 0
hits-above zero owner h = refl
hits-above (suc n) owner h =
    let other : (owner == n) ≡ false = ne_eqb owner n (λ e. absurd (omega (arith, e, h))) in
    omega (arith, ap one_if other, hits-above n owner (omega (arith, h)))

hits-some : (n owner : ℕ) → hits n (Some owner) ≤ 1
hits-some zero owner = omega arith
hits-some (suc n) owner = elim (cases_Bool (owner == n)) [
  | inl same ↦ omega (arith, ap one_if same, hits-above n owner (omega (arith, eqb-true owner n same)))
  | inr other ↦ omega (arith, ap one_if other, hits-some n owner)
]

hits-owner : (n : ℕ) (owner : Option ℕ) → hits n owner + one_if (is_none owner) ≤ 1
hits-owner n None = omega (arith, hits-none n)
hits-owner n (Some owner) = omega (arith, hits-some n owner)

-- each live block has one slot
total-few : (n : ℕ) (blocks : List (Block ℕ)) → total n blocks + count_by is_free blocks ≤ length blocks
total-few n [] = omega (arith, total-none n)
total-few n (block ∷ blocks) = omega (arith, total-cons n block blocks, count-cons is_free block blocks, hits-owner n block.owner, total-few n blocks)

total-many : (n : ℕ) (blocks : List (Block ℕ)) → ((slot : ℕ) → slot < n → 1 ≤ slot_times slot blocks) → n ≤ total n blocks
total-many zero blocks all = omega arith
total-many (suc n) blocks all = omega (arith, all n (omega arith), total-many n blocks (λ slot below. all slot (omega (arith, below))))

-- n slots in use are those of n live blocks
pub slots_in_use : (n : ℕ) (blocks : List (Block ℕ)) → ((slot : ℕ) → slot < n → 1 ≤ slot_times slot blocks) → n + count_by is_free blocks ≤ length blocks
slots_in_use n blocks all = omega (arith, total-many n blocks all, total-few n blocks)

-- a free block found is counted
pub free_found : (place : ℕ) (blocks : List (Block ℕ)) (found : Found place blocks) → is_free found.block ≡ true → 1 ≤ count_by is_free blocks
free_found place blocks found free =
    omega (arith, ap (count_by is_free) found.whole, count-append is_free found.front (found.block ∷ found.back), count-cons is_free found.block found.back, ap one_if free)

-- no block has the slot, where none is found
slot_none : (slot : ℕ) (blocks : List (Block ℕ)) → list_any (λ block. is_slot slot block.owner) blocks ≡ false → slot_times slot blocks ≡ 0
slot_none slot [] h = refl
slot_none slot (block ∷ blocks) h =
    let parts = or_parts (is_slot slot block.owner) (list_any (λ (block : Block ℕ). is_slot slot block.owner) blocks) h in
    omega (arith, slot_times-cons slot block blocks, ap one_if parts.0, slot_none slot blocks parts.1)

slot_some : (slot : ℕ) (blocks : List (Block ℕ)) → list_any (λ block. is_slot slot block.owner) blocks ≡ true → 1 ≤ slot_times slot blocks
slot_some slot [] h = absurd (cc)
slot_some slot (block ∷ blocks) h = elim (or_cases (is_slot slot block.owner) (list_any (λ (block : Block ℕ). is_slot slot block.owner) blocks) h) [
  | inl here ↦ omega (arith, slot_times-cons slot block blocks, ap one_if here)
  | inr later ↦ omega (arith, slot_times-cons slot block blocks, slot_some slot blocks later)
]

-- the same in the pools
pub slot_new : (slot : ℕ) (pools : List (Pool ℕ)) → list_any (λ (pool : Pool ℕ). list_any (λ block. is_slot slot block.owner) pool.blocks) pools ≡ false → slot_times slot (blocks_of pools) ≡ 0
slot_new slot [] h = refl
slot_new slot (pool ∷ pools) h =
    let parts = or_parts (list_any (λ (block : Block ℕ). is_slot slot block.owner) pool.blocks) (list_any (λ (pool : Pool ℕ). list_any (λ (block : Block ℕ). is_slot slot block.owner) pool.blocks) pools) h in
    omega (arith, slot_times-append slot pool.blocks (blocks_of pools), slot_none slot pool.blocks parts.0, slot_new slot pools parts.1)

pub slot_used : (slot : ℕ) (pools : List (Pool ℕ)) → list_any (λ (pool : Pool ℕ). list_any (λ block. is_slot slot block.owner) pool.blocks) pools ≡ true → 1 ≤ slot_times slot (blocks_of pools)
slot_used slot [] h = absurd (cc)
slot_used slot (pool ∷ pools) h = elim (or_cases (list_any (λ (block : Block ℕ). is_slot slot block.owner) pool.blocks) (list_any (λ (pool : Pool ℕ). list_any (λ (block : Block ℕ). is_slot slot block.owner) pool.blocks) pools) h) [
  | inl here ↦ omega (arith, slot_times-append slot pool.blocks (blocks_of pools), slot_some slot pool.blocks here)
  | inr later ↦ omega (arith, slot_times-append slot pool.blocks (blocks_of pools), slot_used slot pools later)
]
