-- What contracts see of a store: its cells, and how often they were touched. A touch reads or writes a
-- record, a class head, a bitmap word, the vacant mark or a pool entry, or does both.
use Rattle.std.specs.Prelude.{◌≡◌, ℕ, ◌+◌}
use Rattle.tlsf_store.specs.Cells.{Cells}

pub record CountedCells : Type 0 where
  pub cells : Cells
  -- how often a cell was touched
  pub touches : ℕ

-- these cells are left, after n touches
pub record LeavesAfter (left : Cells) (n : ℕ) (old new : CountedCells) : Type 0 where
  pub cells : new.cells ≡ left
  pub touches : new.touches ≡ old.touches + n
