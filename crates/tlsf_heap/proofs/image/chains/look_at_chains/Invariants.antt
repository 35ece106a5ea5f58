use Rattle.std.proofs.Common.{◌≡◌, ◌*◌, ◌≤◌, ◌<◌, length, drop}
use Rattle.tlsf_store.specs.Records.{most_records}
use Rattle.tlsf_store.specs.Cells.{most_pools}
use Rattle.tlsf_heap.specs.Images.Findings.{tally_with, chains_found, OnlyReads}
use Rattle.tlsf_heap.proofs.image.chains.look_at_chains.Given as goal

-- what is found of the pools up to here and those that are left is what is found of all
abbrev pub invariant-loop-number : goal.invariant-loop-number
invariant-loop-number g l =
    let sections = g.T.HasSections.sections l.fn.table in
    record {
      read : OnlyReads g.T.HasSections.sections g.T.HasSections.cells g.T.HasSections.touches l.fn.table l.table;
      whole : 0 < l.number → length sections.pools ≡ most_pools;
      few : l.tally.blocks ≤ l.number * most_records;
      told : tally_with sections l.tally (drop l.number sections.pools) ≡ chains_found sections;
    }
