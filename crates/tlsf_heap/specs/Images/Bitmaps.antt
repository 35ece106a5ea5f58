-- The bitmaps: which classes have a free block, and which first levels have a class with one. What a search in them finds.
use Rattle.std.specs.Prelude.{◌≡◌, ℕ, ◌<◌, ◌/◌, ◌%◌, ◌==◌, if◌then◌else◌, List, Option, Some, None, slice_index, ◌≢◌, ◌≤◌, [], ◌∷◌}
use Rattle.std.specs.Int.{bit_at}
use Rattle.tlsf_class.specs.Classes.{steps, levels, classes}
use Rattle.tlsf_store.specs.Cells.{head_at}

-- the bit of a class with this head
abbrev pub head_bit : Option ℕ → ℕ
head_bit None = 0
head_bit (Some slot) = 1

-- the bit of a first level with this step word
abbrev pub word_bit : ℕ → ℕ
word_bit word = if word == 0 then 0 else 1

-- a class's bit is set exactly where its list has a first block, a first level's exactly where its step word isn't 0
pub record AreBitmapsOf (heads : List (Option ℕ)) (step_words : List ℕ) (level_word : ℕ) : Type 0 where
  pub by_class : (class : ℕ) → class < classes → bit_at (slice_index step_words (class / steps)) (class % steps) ≡ head_bit (head_at heads class)
  pub by_level : (level : ℕ) → level < levels → bit_at level_word level ≡ word_bit (slice_index step_words level)

-- the first head that isn't none
abbrev pub first_head : List (Option ℕ) → Option ℕ
first_head [] = None
first_head (None ∷ heads) = first_head heads
first_head (Some slot ∷ heads) = Some slot

-- no bit is set from one place up to another
abbrev pub HasNoBit : ℕ → ℕ → ℕ → Type 0
HasNoBit word from to = (bit : ℕ) → from ≤ bit → bit < to → bit_at word bit ≡ 0

-- the lowest bit set at or above a place, in a word of 32 bits
abbrev pub IsLowestFrom : ℕ → ℕ → ℕ → Type 0
IsLowestFrom word from bit = (from ≤ bit) × (bit < 32) × (bit_at word bit ≡ 1) × HasNoBit word from bit

-- the last class that has a head
pub record IsLastHead (heads : List (Option ℕ)) (class : ℕ) : Type 0 where
  pub within : class < classes
  pub found : head_at heads class ≢ None
  pub last : (later : ℕ) → class < later → later < classes → head_at heads later ≡ None
