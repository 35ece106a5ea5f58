use Rattle.std.proofs.Common.{◌≡◌, ◌*◌, ◌≤◌, ◌<◌, length, drop}
use Rattle.tlsf_class.specs.Classes.{classes}
use Rattle.tlsf_store.specs.Records.{most_records}
use Rattle.tlsf_heap.specs.Images.Findings.{lists_with, OnlyReads}
use Rattle.tlsf_heap.proofs.image.lists.look_at_lists.Given as goal

-- what is found of the lists up to here and those that are left is what is found of all
abbrev pub invariant-loop-number : goal.invariant-loop-number
invariant-loop-number g l =
    let sections = g.T.HasSections.sections l.fn.table in
    record {
      read : OnlyReads g.T.HasSections.sections g.T.HasSections.cells g.T.HasSections.touches l.fn.table l.table;
      whole : 0 < l.number → length sections.heads ≡ classes;
      few : l.blocks ≤ l.number * most_records;
      told : lists_with sections l.blocks l.number (drop l.number sections.heads) ≡ lists_with sections 0 0 sections.heads;
    }
