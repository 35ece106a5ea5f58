use Rattle.std.proofs.Common.{◌≡◌, ◌+◌, ◌≤◌, length}
use Rattle.std.specs.List.{FoldsTo}
use Rattle.tlsf_heap.specs.Cursors.{rows_by, rows_left, stands_at}
use Rattle.tlsf_heap.proofs.walk.walk.Given as goal

-- visits of the rows that are left end visits of all
abbrev pub invariant-loop-row : goal.invariant-loop-row
invariant-loop-row g l =
    let rows = rows_by l.fn.store.cells.records in
    record {
      callable : goal.F-IsAlwaysCallable g l.visit;
      cells : l.store.cells ≡ l.fn.store.cells;
      stands : stands_at rows l.cursor.next;
      visited : (last : _) → FoldsTo (λ p x q. goal.F-step g p x tt q) l.visit (rows_left rows l.cursor.next) last → FoldsTo (λ p x q. goal.F-step g p x tt q) l.fn.visit (rows_left rows l.initial.cursor.next) last;
      floor : l.fn.store.touches ≤ l.store.touches;
      bound : l.store.touches + length (rows_left rows l.cursor.next) ≤ l.fn.store.touches + 4 + length (rows_left rows l.initial.cursor.next);
    }

abbrev pub decreases-loop-row : goal.decreases-loop-row
decreases-loop-row g l = length (rows_left (rows_by l.fn.store.cells.records) l.cursor.next)
