use Rattle.std.proofs.Common.{◌≡◌, ◌≢◌, ℕ, ◌+◌, ◌*◌, ◌<◌, ◌≤◌, length}
use Rattle.tlsf_store.specs.declared.records.State.TheVariants.{Vacant}
use Rattle.tlsf_store.specs.Records.{record_at}
use Rattle.tlsf_heap.specs.Images.Rules.{at}
use Rattle.tlsf_heap.specs.Inner.Loading.{with_records}
use Rattle.tlsf_heap.proofs.load.fill_records.Given as goal

-- the records up to here are those of the table, and none behind is vacant
abbrev pub invariant-loop-number : goal.invariant-loop-number
invariant-loop-number g l =
    let sections = g.T.HasSections.sections l.fn.table in
    record {
      same : g.T.HasSections.sections l.table ≡ sections;
      others : l.store.cells ≡ with_records l.store.cells.records l.fn.store.cells;
      count : length l.store.cells.records ≡ length sections.records;
      done : (k : ℕ) → k < l.number → record_at l.store.cells.records k ≡ at sections k;
      left : (k : ℕ) → l.number ≤ k → k < length sections.records → (record_at l.store.cells.records k).state ≢ Vacant;
      touches : l.store.touches ≤ l.fn.store.touches + 3 * l.number;
    }
