-- The words of the levels so far agree with their bits.
use Rattle.std.proofs.Common.{◌≡◌, ℕ, ◌<◌, ◌/◌, ◌%◌, get_or}
use Rattle.std.specs.Int.{bit_at}
use Rattle.tlsf_class.specs.Classes.{steps, classes}
use Rattle.tlsf_store.specs.Cells.{head_at}
use Rattle.tlsf_heap.specs.Images.Bitmaps.{head_bit, word_bit}
use Rattle.tlsf_heap.proofs.image.bitmaps.has_true_bitmaps.Given as goal

abbrev pub invariant-loop-level : goal.invariant-loop-level
invariant-loop-level l = record {
  cells : l.table.cells ≡ l.fn.table.cells;
  classes : (class : ℕ) → class < classes → bit_at (get_or l.fn.table.cells.step_words (class / steps) 0) (class % steps) ≡ head_bit (head_at l.fn.table.cells.heads class);
  agree : (level : ℕ) → level < l.level → bit_at l.fn.table.cells.level_word level ≡ word_bit (get_or l.fn.table.cells.step_words level 0);
}
