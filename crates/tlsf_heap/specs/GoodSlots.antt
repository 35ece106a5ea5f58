-- What every heap keeps of its live blocks' slots.
use Rattle.std.specs.Prelude.{◌≡◌, ℕ, ◌≤◌, Bool, false, List, count_by, ◌==◌, Option, Some, None}
use Rattle.tlsf_heap.specs.Content.{Block, Content, blocks_of}

-- whether the owner is this slot
abbrev pub is_slot : ℕ → Option ℕ → Bool
is_slot slot None = false
is_slot slot (Some owner) = owner == slot

-- how many live blocks have the slot
abbrev pub slot_times : ℕ → List (Block ℕ) → ℕ
slot_times slot blocks = count_by (λ block. is_slot slot block.owner) blocks

-- live slots are distinct, and below the number of records
pub record HasGoodSlots (content : Content ℕ) : Type 0 where
  pub distinct : (slot : ℕ) → slot_times slot (blocks_of content.pools) ≤ 1
  pub below : (slot : ℕ) → content.records ≤ slot → slot_times slot (blocks_of content.pools) ≡ 0
