use Rattle.std.proofs.Common.{List, length}
use Rattle.std.specs.Prelude.{nat_le}
use Rattle.tlsf_heap.specs.declared.row.Row.{Row as HeapRow}
use Rattle.tlsf_heap.specs.Cursors.{rows_behind}
use Rattle.tlsf_c.specs.Rows.{row_for}
use Rattle.tlsf_c.proofs.FilledRows.{HasFilled}
use Rattle.tlsf_c.proofs.PassedRows.{HasPassed}
use Rattle.tlsf_c.proofs.walk.fill.Given as goal

-- of the rows passed, those from the place on were put
abbrev pub invariant-loop-next : goal.invariant-loop-next
invariant-loop-next l =
    record {
      past : List HeapRow;
      passed : HasPassed l.fn.cursor l.fn.heap past l.here l.heap;
      filled : HasFilled (λ row. nat_le l.fn.from row.place) row_for l.fn.rows past l.count l.rows;
    }

abbrev pub decreases-loop-next : goal.decreases-loop-next
decreases-loop-next l = length (rows_behind l.heap.rows l.here)
