use Rattle.std.proofs.Common.{◌≡◌, ◌+◌, ◌<◌, ◌≤◌, length, drop}
use Rattle.tlsf_store.specs.Cells.{most_pools}
use Rattle.tlsf_heap.specs.Images.Findings.{OnlyReads}
use Rattle.tlsf_heap.proofs.image.writing.count_pools.Given as goal
use Rattle.tlsf_heap.specs.Inner.Entries.{entries_of}

-- the pools up to here and those that are left are all
abbrev pub invariant-loop-number : goal.invariant-loop-number
invariant-loop-number g l =
    let sections = g.T.HasSections.sections l.fn.table in
    record {
      read : OnlyReads g.T.HasSections.sections g.T.HasSections.cells g.T.HasSections.touches l.fn.table l.table;
      whole : 0 < l.number → length sections.pools ≡ most_pools;
      few : l.pools ≤ l.number;
      told : l.pools + length (entries_of (drop l.number sections.pools)) ≡ length (entries_of sections.pools);
    }
