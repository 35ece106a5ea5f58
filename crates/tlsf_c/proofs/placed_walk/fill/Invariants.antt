use Rattle.std.proofs.Common.{◌≡◌, List, length}
use Rattle.std.specs.Prelude.{nat_le}
use Rattle.std.specs.List.{AllByRecursion}
use Rattle.tlsf_heap.specs.declared.row.Row.{Row as HeapRow}
use Rattle.tlsf_heap.specs.Cursors.{rows_behind}
use Rattle.tlsf_c.specs.PlacedRows.{IsRowOf, placed_row}
use Rattle.tlsf_c.proofs.FilledRows.{HasFilled}
use Rattle.tlsf_c.proofs.PassedRows.{HasPassed}
use Rattle.tlsf_c.proofs.placed_walk.fill.Given as goal

-- of the rows passed, those from the address on were put; those to come are the pool's
abbrev pub invariant-loop-next : goal.invariant-loop-next
invariant-loop-next l =
    record {
      past : List HeapRow;
      passed : HasPassed l.fn.cursor l.fn.heap past l.here l.heap;
      filled : HasFilled (λ row. nat_le l.fn.from (placed_row l.fn.pool row).address) (placed_row l.fn.pool) l.fn.rows past l.count l.rows;
      within : AllByRecursion (IsRowOf l.fn.pool) (rows_behind l.heap.rows l.here);
      pool : l.pool ≡ l.fn.pool;
      from : l.from ≡ l.fn.from;
    }

abbrev pub decreases-loop-next : goal.decreases-loop-next
decreases-loop-next l = length (rows_behind l.heap.rows l.here)
