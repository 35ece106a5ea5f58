use Rattle.std.proofs.Common.{◌≡◌, ◌<◌, length, drop}
use Rattle.std.specs.Prelude.{◌&&◌}
use Rattle.tlsf_store.specs.Cells.{most_pools}
use Rattle.tlsf_heap.specs.Images.Rules.{are_pools, has_packed_pools}
use Rattle.tlsf_heap.specs.Images.Findings.{OnlyReads}
use Rattle.tlsf_heap.proofs.image.pools.has_packed_pools.Given as goal
use Rattle.tlsf_heap.specs.Inner.Entries.{entries_of}
use Rattle.tlsf_heap.proofs.Images.PackedPools.{are_packed_behind}

-- all entries pass exactly if those that are left do
abbrev pub invariant-loop-number : goal.invariant-loop-number
invariant-loop-number g l =
    let sections = g.T.HasSections.sections l.fn.table in
    record {
      read : OnlyReads g.T.HasSections.sections g.T.HasSections.cells g.T.HasSections.touches l.fn.table l.table;
      whole : 0 < l.number → length sections.pools ≡ most_pools;
      told : (are_packed_behind l.ended (drop l.number sections.pools) && are_pools (length sections.records) l.from (entries_of (drop l.number sections.pools))) ≡ has_packed_pools sections;
    }
