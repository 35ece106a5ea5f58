-- What a caller knows a live block by: where it begins, and its slot.
use Rattle.std.specs.Prelude.{ℕ, ◌==◌, Option, Some, None, Result}
use Rattle.tlsf_heap.specs.declared.refusal.Refusal.{Refusal}
use Rattle.tlsf_heap.specs.Content.{Content}
use Rattle.tlsf_heap.specs.Free.{free}
use Rattle.tlsf_heap.specs.Realloc.{realloc}
use Rattle.tlsf_heap.specs.BlockSize.{block_size}

pub record Pointer : Type 0 where
  pub place : ℕ
  pub slot : ℕ

-- the place and the slot, where there is a pointer
abbrev pub place_and_slot : Option Pointer → Option (ℕ × ℕ)
place_and_slot None = None
place_and_slot (Some pointer) = Some (pointer.place, pointer.slot)

-- the pointer's slot, 0 where there is no pointer
abbrev pub slot_of : Option Pointer → ℕ
slot_of None = 0
slot_of (Some pointer) = pointer.slot

-- free of the live block with the pointer's place and slot
abbrev pub free_ptr : Pointer → Content ℕ → Result (Content ℕ) Refusal
free_ptr pointer content = free (λ slot. slot == pointer.slot) pointer.place content

-- realloc of the live block with the pointer's place and slot, where a new live block has `slot`
abbrev pub realloc_ptr : Option Pointer → (n slot : ℕ) → Content ℕ → Result (Option (ℕ × ℕ) × Content ℕ) Refusal
realloc_ptr pointer n slot content = realloc (λ a b. a == b) slot (place_and_slot pointer) n content

-- the size of the live block with the pointer's place and slot
abbrev pub block_size_ptr : Pointer → Content ℕ → Result ℕ Refusal
block_size_ptr pointer content = block_size (λ slot. slot == pointer.slot) pointer.place content
