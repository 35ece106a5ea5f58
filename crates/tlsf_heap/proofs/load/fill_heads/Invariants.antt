-- The heads of the classes so far are the table's, the others none.
use Rattle.std.proofs.Common.{◌≡◌, ◌+◌, ◌*◌, ◌<◌, ◌≤◌, length}
use Rattle.tlsf_class.specs.Classes.{classes}
use Rattle.tlsf_heap.specs.Inner.Loading.{HasHeadsBelow}
use Rattle.tlsf_heap.proofs.load.fill_heads.Given as goal

abbrev pub invariant-loop-number : goal.invariant-loop-number
invariant-loop-number g l =
    let sections = g.T.HasSections.sections l.fn.table in
    record {
      same : g.T.HasSections.sections l.table ≡ sections;
      whole : 0 < l.number → length sections.heads ≡ classes;
      so_far : HasHeadsBelow sections.heads l.fn.store.cells l.number l.store.cells;
      touches : l.store.touches ≤ l.fn.store.touches + 5 * l.number;
    }
