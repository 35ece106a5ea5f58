use Rattle.std.proofs.Common.{◌≡◌, ◌<◌, ◌+◌, ℕ, length}
use Rattle.tlsf_store.specs.Cells.{pool_at, most_pools}
use Rattle.tlsf_heap.specs.Inner.Entries.{padded_at}
use Rattle.tlsf_heap.proofs.entries.set_entries.Given as goal

-- the entries so far are written, and nothing else
abbrev pub invariant-loop-number : goal.invariant-loop-number
invariant-loop-number l = record {
  count : length l.store.cells.pools ≡ most_pools;
  written : (k : ℕ) → k < l.number → pool_at l.store.cells.pools k ≡ padded_at l.entries k;
  rest : l.store.cells ≡ record l.initial.store.cells { pools = l.store.cells.pools };
  touches : l.store.touches ≡ l.initial.store.touches + l.number;
}
