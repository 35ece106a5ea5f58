-- One row more in each turn.
use Rattle.std.proofs.Common.{◌≡◌, ◌∷◌, refl, ap, ◌∙◌, arith, length}
use denote.Param.Always.{mut_next}
use Rattle.tlsf_store.specs.Cells.{Cells}
use Rattle.tlsf_heap.specs.Cursors.{rows_by, rows_left}
use Rattle.tlsf_heap.proofs.walk.walk.Goals as goal

pub loop-row-preserved : goal.loop-row-preserved
loop-row-preserved g c =
    let same = ap (λ (cells : Cells). rows_by cells.records) c.loop-row.invariant.cells in
    let rest : rows_left (rows_by c.args.store.now.cells.records) c.loop-row.cursor.next ≡ c.in-Some.row ∷ rows_left (rows_by c.args.store.now.cells.records) c.in-Some.next.next =
    rw same at c.in-Some.ensures.given.some in
    record {
      callable = mut_next g.F.FnMut _ _ _ _ _ c.visit.ensures refl c.loop-row.invariant.callable;
      cells = c.in-Some.ensures.cells ∙ c.loop-row.invariant.cells;
      stands = rw same at c.in-Some.ensures.given.next_stands;
      visited = λ last behind. c.loop-row.invariant.visited last (rw rest (c.visit.new.self, c.visit.ensures, behind));
      floor = omega (arith, c.in-Some.ensures.touched.bound);
      bound = omega (arith, c.in-Some.ensures.touched.bound, ap length rest);
    }
