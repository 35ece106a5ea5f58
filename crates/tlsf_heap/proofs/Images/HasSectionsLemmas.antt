-- Readings of a table, one after the other.
use Rattle.std.proofs.Common.{ℕ, ◌∙◌, refl, arith}
use Rattle.tlsf_store.specs.Cells.{Cells}
use Rattle.tlsf_heap.specs.Images.Image.{Sections}
use Rattle.tlsf_heap.specs.Images.Findings.{OnlyReads}

module _ {T : Type 0} {sections : T → Sections} {cells : T → Cells} {touches : T → ℕ} where
  pub not_read : (table : T) → OnlyReads sections cells touches table table
  not_read table = record { same = refl; kept = refl; floor = omega arith }

  pub and_reads : {first then last : T} → OnlyReads sections cells touches first then → OnlyReads sections cells touches then last → OnlyReads sections cells touches first last
  and_reads a b = record { same = b.same ∙ a.same; kept = b.kept ∙ a.kept; floor = omega (arith, a.floor, b.floor) }
