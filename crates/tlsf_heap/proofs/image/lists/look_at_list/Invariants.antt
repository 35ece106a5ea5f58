use Rattle.std.proofs.Common.{◌≡◌, ◌-◌, ◌≤◌, length}
use Rattle.tlsf_store.specs.Records.{IsBelow}
use Rattle.tlsf_store.specs.Cells.{head_at}
use Rattle.tlsf_heap.specs.Images.Findings.{list_found, OnlyReads}
use Rattle.tlsf_heap.proofs.Images.ListLemmas.{rest_found}
use Rattle.tlsf_heap.proofs.image.lists.look_at_list.Given as goal

-- what is found of the blocks up to here and those that are left is what is found of the list
abbrev pub invariant-loop-next : goal.invariant-loop-next
invariant-loop-next g l =
    let sections = g.T.HasSections.sections l.fn.table in
    record {
      read : OnlyReads g.T.HasSections.sections g.T.HasSections.cells g.T.HasSections.touches l.fn.table l.table;
      below : IsBelow (length sections.records) l.next;
      few : l.blocks ≤ length sections.records;
      told : rest_found sections l.fn.class l.blocks l.before l.next ≡ list_found sections l.fn.class (head_at sections.heads l.fn.class);
    }

abbrev pub decreases-loop-next : goal.decreases-loop-next
decreases-loop-next g l = length (g.T.HasSections.sections l.fn.table).records - l.blocks
