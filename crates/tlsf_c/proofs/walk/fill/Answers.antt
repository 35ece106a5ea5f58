use Rattle.std.proofs.Common.{Bool, [], ◌∷◌, ◌++◌, ◌∙◌}
use Rattle.std.specs.Prelude.{nat_le}
use Rattle.std.proofs.lemmas.Bool.{le-leb, lt-leb}
use Rattle.tlsf_heap.specs.declared.row.Row.{Row as HeapRow}
use Rattle.tlsf_c.specs.Rows.{row_for}
use Rattle.tlsf_c.proofs.FilledRows.{filled_none, filled_next, filled_still}
use Rattle.tlsf_c.proofs.PassedRows.{passed_none, passed_next}
use Rattle.tlsf_c.proofs.walk.fill.Goals as goal
use Rattle.tlsf_c.proofs.walk.fill.Goals.{then-from-next, else-from-next}

pub loop-next-init : goal.loop-next-init
loop-next-init c = record {
  past = [];
  passed = passed_none c.args.cursor c.args.heap.now c.requires.stands;
  filled = filled_none (λ (row : HeapRow). nat_le c.args.from row.place) row_for c.args.rows.now;
}

-- one row more is passed, and put where it begins at the place or behind it
pub loop-next-preserved : goal.loop-next-preserved
loop-next-preserved c =
    let kept = c.loop-next.invariant in
    let row = c.in-Some.next.0 in
    let test : HeapRow → Bool = λ (row : HeapRow). nat_le c.args.from row.place in
    record {
      past = kept.past ++ row ∷ [];
      passed = passed_next row c.in-Some.next.1 kept.passed c.in-Some.ensures.given.some c.in-Some.ensures.given.next_stands c.in-Some.ensures.unchanged c.in-Some.ensures.touched.bound;
      filled = elim c.if-from-next.branch [
        | then-from-next w ↦ filled_next test row_for c.args.rows.now kept.past row c.loop-next.count _ c.loop-next.rows _ (le-leb c.args.from row.place w.if-from-next.true) kept.filled w.count-is (w.rows-is ∙ w.put.ensures)
        | else-from-next w ↦ filled_still test row_for c.args.rows.now kept.past row c.loop-next.count _ c.loop-next.rows _ (lt-leb c.args.from row.place w.if-from-next.false) kept.filled w.count-is w.rows-is
      ];
    }
