use Rattle.std.proofs.Common.{◌≡◌, ◌+◌, ◌≤◌, ◌<◌, take, length}
use Rattle.std.specs.Prelude.{All}
use Rattle.tlsf_heap.specs.Inner.Entries.{entries_of}
use Rattle.tlsf_heap.proofs.entries.entries.Given as goal

-- the entries so far
abbrev pub invariant-loop-number : goal.invariant-loop-number
invariant-loop-number l = record {
  items : l.entries.items ≡ entries_of (take l.number l.initial.store.cells.pools);
  few : length l.entries.items ≤ l.number;
  below : All (λ entry. entry.first < length l.initial.store.cells.records) l.entries.items;
  cells : l.store.cells ≡ l.initial.store.cells;
  touches : l.store.touches ≡ l.initial.store.touches + l.number;
}
