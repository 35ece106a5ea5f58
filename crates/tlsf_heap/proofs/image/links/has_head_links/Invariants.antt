use Rattle.std.proofs.Common.{◌≡◌, ◌<◌, length, drop}
use Rattle.std.specs.List.{list_all}
use Rattle.tlsf_class.specs.Classes.{classes}
use Rattle.tlsf_heap.specs.Images.Rules.{is_below}
use Rattle.tlsf_heap.specs.Images.Findings.{OnlyReads}
use Rattle.tlsf_heap.proofs.image.links.has_head_links.Given as goal

-- the heads that are left tell whether all are
abbrev pub invariant-loop-number : goal.invariant-loop-number
invariant-loop-number g l =
    let sections = g.T.HasSections.sections l.fn.table in
    record {
      read : OnlyReads g.T.HasSections.sections g.T.HasSections.cells g.T.HasSections.touches l.fn.table l.table;
      whole : 0 < l.number → length sections.heads ≡ classes;
      told : list_all (is_below (length sections.records)) (drop l.number sections.heads) ≡ list_all (is_below (length sections.records)) sections.heads;
    }
