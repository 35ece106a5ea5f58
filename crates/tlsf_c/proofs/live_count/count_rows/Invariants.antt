use Rattle.std.proofs.Common.{◌≡◌, ◌*◌, ◌≤◌, List, length}
use Rattle.tlsf_heap.specs.declared.row.Row.{Row}
use Rattle.tlsf_heap.specs.Cursors.{rows_behind}
use Rattle.tlsf_c.specs.LiveCounts.{used_rows, used_bytes}
use Rattle.tlsf_c.proofs.PassedRows.{HasPassed}
use Rattle.tlsf_c.proofs.live_count.count_rows.Given as goal

-- what is live among the rows passed was counted
abbrev pub invariant-loop-next : goal.invariant-loop-next
invariant-loop-next l =
    record {
      past : List Row;
      passed : HasPassed l.fn.cursor l.fn.heap past l.here l.heap;
      blocks : l.blocks ≡ used_rows past;
      bytes : l.bytes ≡ used_bytes past;
      few : l.blocks ≤ length past;
      few_bytes : l.bytes ≤ 4294967295 * length past;
    }

abbrev pub decreases-loop-next : goal.decreases-loop-next
decreases-loop-next l = length (rows_behind l.heap.rows l.here)
