-- The records taken so far aren't vacant.
use Rattle.std.proofs.Common.{◌≡◌, ◌+◌, ◌*◌, ◌≤◌, length}
use Rattle.tlsf_store.specs.Records.{vacant_count}
use Rattle.tlsf_heap.specs.Inner.Loading.{with_records}
use Rattle.tlsf_heap.proofs.load.stored.Given as goal

abbrev pub invariant-loop : goal.invariant-loop
invariant-loop g l = record {
  others : l.store.cells ≡ with_records l.store.cells.records l.initial.store.cells;
  count : length l.store.cells.records ≡ length l.initial.store.cells.records;
  touches : l.store.touches + 2 * vacant_count l.store.cells.records ≤ l.initial.store.touches + 2 * vacant_count l.initial.store.cells.records;
}

abbrev pub decreases-loop : goal.decreases-loop
decreases-loop g l = vacant_count l.store.cells.records
