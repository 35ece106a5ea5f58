-- Cells that get what a table holds.
use Rattle.std.specs.Prelude.{◌≡◌, ℕ, ◌<◌, ◌≤◌, true, false, List, length, Option, None}
use Rattle.tlsf_class.specs.Classes.{classes, levels}
use Rattle.tlsf_store.specs.declared.records.Record.{Record}
use Rattle.tlsf_store.specs.declared.pools.Pool.{Pool as StoredPool}
use Rattle.tlsf_store.specs.Records.{blank, IsBelow, IsKept}
use Rattle.tlsf_store.specs.Cells.{Cells, head_at}
use Rattle.tlsf_heap.specs.Images.Image.{Sections}
use Rattle.tlsf_heap.specs.Images.Rules.{at, is_used}
use Rattle.tlsf_heap.specs.Images.Described.{sections_of}
use Rattle.tlsf_heap.specs.Images.Bitmaps.{AreBitmapsOf}

-- the cells with these records, and with these pools
abbrev pub with_records : List Record → Cells → Cells
with_records records cells = record cells { records = records }

abbrev pub with_pools : List (Option StoredPool) → Cells → Cells
with_pools pools cells = record cells { pools = pools }

-- a store can keep what the sections hold: blocks and heads, and vacant records are blank
pub record CanBeStored (sections : Sections) : Type 0 where
  pub kept : (slot : ℕ) → slot < length sections.records → is_used (at sections slot).state ≡ true → IsKept (length sections.records) (at sections slot)
  pub vacant : (slot : ℕ) → slot < length sections.records → is_used (at sections slot).state ≡ false → at sections slot ≡ blank
  pub heads : (class : ℕ) → class < classes → IsBelow (length sections.records) (head_at sections.heads class)

-- the cells hold the sections, and the bitmaps are those of the heads
pub record HoldsSections (sections : Sections) (cells : Cells) : Type 0 where
  pub held : sections_of cells ≡ sections
  pub words_count : length cells.step_words ≡ levels
  pub bitmaps : AreBitmapsOf cells.heads cells.step_words cells.level_word

-- the heads of the classes below a number are these, and no other class has a block. The bitmaps agree, and all else
-- is as in the old cells
pub record HasHeadsBelow (heads : List (Option ℕ)) (old : Cells) (number : ℕ) (cells : Cells) : Type 0 where
  pub records : cells.records ≡ old.records
  pub pools : cells.pools ≡ old.pools
  pub heads_count : length cells.heads ≡ classes
  pub words_count : length cells.step_words ≡ levels
  pub bitmaps : AreBitmapsOf cells.heads cells.step_words cells.level_word
  pub done : (k : ℕ) → k < number → head_at cells.heads k ≡ head_at heads k
  pub left : (k : ℕ) → number ≤ k → k < classes → head_at cells.heads k ≡ None
