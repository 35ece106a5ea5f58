use Rattle.std.proofs.Common.{◌≡◌, true, ◌≤◌, length, drop}
use Rattle.std.specs.List.{list_all}
use Rattle.tlsf_heap.specs.Images.Rules.{is_below}
use Rattle.tlsf_heap.specs.Images.Findings.{blocks_with, OnlyReads}
use Rattle.tlsf_heap.proofs.image.links.look_at_links.Given as goal

-- what is found of the records up to here and those that are left is what is found of all
abbrev pub invariant-loop-slot : goal.invariant-loop-slot
invariant-loop-slot g l =
    let sections = g.T.HasSections.sections l.fn.table in
    record {
      read : OnlyReads g.T.HasSections.sections g.T.HasSections.cells g.T.HasSections.touches l.fn.table l.table;
      heads : list_all (is_below (length sections.records)) sections.heads ≡ true;
      few : l.blocks.all ≤ l.slot;
      few_free : l.blocks.free ≤ l.slot;
      told : blocks_with (length sections.records) l.blocks (drop l.slot sections.records) ≡ blocks_with (length sections.records) (record { all = 0; free = 0 }) sections.records;
    }
