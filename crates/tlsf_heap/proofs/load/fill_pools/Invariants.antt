use Rattle.std.proofs.Common.{◌≡◌, ℕ, ◌+◌, ◌<◌, length}
use Rattle.tlsf_store.specs.Cells.{pool_at, most_pools}
use Rattle.tlsf_heap.specs.Inner.Loading.{with_pools}
use Rattle.tlsf_heap.proofs.load.fill_pools.Given as goal

-- the pools up to here are those of the table
abbrev pub invariant-loop-number : goal.invariant-loop-number
invariant-loop-number g l =
    let sections = g.T.HasSections.sections l.fn.table in
    record {
      same : g.T.HasSections.sections l.table ≡ sections;
      others : l.store.cells ≡ with_pools l.store.cells.pools l.fn.store.cells;
      count : length l.store.cells.pools ≡ most_pools;
      whole : 0 < l.number → length sections.pools ≡ most_pools;
      done : (k : ℕ) → k < l.number → pool_at l.store.cells.pools k ≡ pool_at sections.pools k;
      touches : l.store.touches ≡ l.fn.store.touches + l.number;
    }
