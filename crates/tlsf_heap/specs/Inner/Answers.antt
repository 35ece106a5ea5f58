-- What steps over a store promise: the cells that they leave, and how often they touch it.
use Rattle.std.specs.Prelude.{◌≡◌, ℕ, ◌<◌, ◌≤◌, Option, Some, None, Result, IfOk, IfErr, OnErr}
use Rattle.tlsf_store.specs.declared.records.State.TheVariants.{Free}
use Rattle.tlsf_store.specs.Records.{record_at}
use Rattle.tlsf_store.specs.Cells.{Cells, head_at}
use Rattle.tlsf_store.specs.CountedCells.{CountedCells}
use Rattle.tlsf_heap.specs.declared.refusal.Refusal.{Refusal}
use Rattle.tlsf_heap.specs.Touches.{AtMost}
use Rattle.tlsf_class.specs.Classes.{classes}
use Rattle.tlsf_heap.specs.Content.{Content, blocks_of, size_at}
use Rattle.tlsf_heap.specs.Good.{times}
use Rattle.tlsf_heap.specs.Lists.{list_of, pick}
use Rattle.tlsf_heap.specs.Inner.Spans.{IsOfClass}
use Rattle.tlsf_heap.specs.Inner.Following.{Stands, content_of}

-- these cells are left, after at most n touches
pub record Leaves (left : Cells) (n : ℕ) (old new : CountedCells) : Type 0 where
  pub cells : new.cells ≡ left
  pub touches : AtMost n old.touches new.touches

-- the slot's block, of this class, is the one that is picked for the bytes asked
pub record IsPick (asked class slot : ℕ) (cells : Cells) : Type 0 where
  pub of_class : IsOfClass class (record_at cells.records slot)
  pub first : (record_at cells.records slot).prev_free ≡ None
  pub free : (record_at cells.records slot).state ≡ Free
  pub found : pick asked (content_of cells).lists ≡ Some (record_at cells.records slot).place

-- the first block of this class's list is the one that is picked for the bytes asked
abbrev pub IsPickOf : (asked class : ℕ) → Cells → Type 0
IsPickOf asked class cells = (slot : ℕ) × (head_at cells.heads class ≡ Some slot) × IsPick asked class slot cells

-- the slot's block, of this class, is free, the first of a list, and has the bytes asked
pub record IsTakeable (asked class slot : ℕ) (cells : Cells) : Type 0 where
  pub of_class : IsOfClass class (record_at cells.records slot)
  pub first : (record_at cells.records slot).prev_free ≡ None
  pub free : (record_at cells.records slot).state ≡ Free
  pub number : ℕ
  pub below : number < classes
  pub stands : 1 ≤ times (record_at cells.records slot).place (list_of number (content_of cells).lists)
  pub holds : asked ≤ size_at (record_at cells.records slot).place (blocks_of (content_of cells).pools)

-- the slot's block, of this class, may be taken, and is the one that was found
pub record IsTakenFor (asked : ℕ) (place : Option ℕ) (class slot : ℕ) (cells : Cells) : Type 0 where
  pub takeable : IsTakeable asked class slot cells
  pub found : place ≡ Some (record_at cells.records slot).place

-- the first block of this class's list may be taken, and is the one that was found
abbrev pub IsFirstFor : (asked : ℕ) → Option ℕ → ℕ → Cells → Type 0
IsFirstFor asked place class cells = (slot : ℕ) × (head_at cells.heads class ≡ Some slot) × IsTakenFor asked place class slot cells

-- a call over a store that stands, by its content: what it gives, or why it is refused. Refused, it leaves the cells as they
-- were. At most n touches
pub record AnswersOver {A : Type 0} (result : Result A Refusal) (gives : A → Content ℕ → Content ℕ → Type 0) (refuses : Refusal → Content ℕ → Type 0) (n : ℕ) (old new : CountedCells) : Type 0 where
  pub stands : Stands new.cells
  pub ok : IfOk result (λ given. gives given (content_of old.cells) (content_of new.cells))
  pub refused : IfErr result (λ refusal. refuses refusal (content_of old.cells))
  pub cells : OnErr result (new.cells ≡ old.cells)
  pub touches : AtMost n old.touches new.touches
