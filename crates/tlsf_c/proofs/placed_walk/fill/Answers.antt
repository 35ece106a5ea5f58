use Rattle.std.proofs.Common.{Bool, ◌≡◌, [], ◌∷◌, ◌++◌, slice_set, refl, ap, ◌∙◌, subst, arith}
use Rattle.std.specs.Prelude.{nat_le}
use Rattle.std.specs.List.{AllByRecursion}
use Rattle.std.proofs.lemmas.Bool.{le-leb, lt-leb}
use Rattle.tlsf_heap.specs.declared.row.Row.{Row as HeapRow}
use Rattle.tlsf_c.specs.declared.placed_row.PlacedRow.{PlacedRow}
use Rattle.tlsf_c.specs.PlacedRows.{IsRowOf, placed_row}
use Rattle.tlsf_c.proofs.FilledRows.{filled_none, filled_next, filled_still}
use Rattle.tlsf_c.proofs.PassedRows.{passed_none, passed_next}
use Rattle.tlsf_c.proofs.placed_walk.fill.Goals as goal
use Rattle.tlsf_c.proofs.placed_walk.fill.Goals.{then-from-row, else-from-row}

pub loop-next-init : goal.loop-next-init
loop-next-init c = record {
  past = [];
  passed = passed_none c.args.cursor c.args.heap.now c.requires.stands;
  filled = filled_none (λ (row : HeapRow). nat_le c.args.from (placed_row c.args.pool.now row).address) (placed_row c.args.pool.now) c.args.rows.now;
  within = c.requires.within;
  pool = refl;
  from = refl;
}

-- one row more is passed, and put where its address is the one given or behind it
pub loop-next-preserved : goal.loop-next-preserved
loop-next-preserved c =
    let kept = c.loop-next.invariant in
    let pool = c.args.pool.now in
    let row = c.in-Some.next.0 in
    let test : HeapRow → Bool = λ (row : HeapRow). nat_le c.args.from (placed_row pool row).address in
    let address_is : c.of-row.result.address ≡ (placed_row pool row).address = ap (λ (r : PlacedRow). r.address) c.of-row.ensures in
    let within = subst (AllByRecursion (IsRowOf pool)) c.in-Some.ensures.given.some kept.within in
    record {
      past = kept.past ++ row ∷ [];
      passed = passed_next row c.in-Some.next.1 kept.passed c.in-Some.ensures.given.some c.in-Some.ensures.given.next_stands c.in-Some.ensures.unchanged c.in-Some.ensures.touched.bound;
      filled = elim c.if-from-row.branch [
        | then-from-row w ↦
            let put = w.rows-is ∙ w.put.ensures ∙ ap (λ (r : PlacedRow). slice_set c.loop-next.rows c.loop-next.count r) c.of-row.ensures in
            filled_next test (placed_row pool) c.args.rows.now kept.past row c.loop-next.count _ c.loop-next.rows _ (le-leb c.args.from (placed_row pool row).address (omega (arith, address_is, w.if-from-row.true))) kept.filled w.count-is put
        | else-from-row w ↦
            filled_still test (placed_row pool) c.args.rows.now kept.past row c.loop-next.count _ c.loop-next.rows _ (lt-leb c.args.from (placed_row pool row).address (omega (arith, address_is, w.if-from-row.false))) kept.filled w.count-is w.rows-is
      ];
      within = within.1;
      pool = kept.pool;
      from = kept.from;
    }
