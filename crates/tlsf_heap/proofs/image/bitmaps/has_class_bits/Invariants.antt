-- The bits of the classes so far agree with their heads.
use Rattle.std.proofs.Common.{◌≡◌, ℕ, ◌<◌, ◌/◌, ◌%◌, get_or}
use Rattle.std.specs.Int.{bit_at}
use Rattle.tlsf_class.specs.Classes.{steps}
use Rattle.tlsf_store.specs.Cells.{head_at}
use Rattle.tlsf_heap.specs.Images.Bitmaps.{head_bit}
use Rattle.tlsf_heap.proofs.image.bitmaps.has_class_bits.Given as goal

abbrev pub invariant-loop-number : goal.invariant-loop-number
invariant-loop-number l = record {
  cells : l.table.cells ≡ l.fn.table.cells;
  agree : (class : ℕ) → class < l.number → bit_at (get_or l.fn.table.cells.step_words (class / steps) 0) (class % steps) ≡ head_bit (head_at l.fn.table.cells.heads class);
}
