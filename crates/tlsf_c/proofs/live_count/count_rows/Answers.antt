use Rattle.std.proofs.Common.{◌≡◌, ◌+◌, [], ◌∷◌, ◌++◌, length, ap, arith}
use Rattle.std.specs.Prelude.{if◌then◌else◌}
use Rattle.std.proofs.lemmas.List.{length-append}
use Rattle.tlsf_heap.proofs.Counts.{one_if}
use Rattle.tlsf_c.proofs.LiveRows.{used_rows_next, used_bytes_next}
use Rattle.tlsf_c.proofs.PassedRows.{passed_next}
use Rattle.tlsf_c.proofs.live_count.count_rows.Goals as goal
use Rattle.tlsf_c.proofs.live_count.count_rows.Goals.{then-next, else-next}

-- one row more is counted where it is of a live block
pub loop-next-preserved : goal.loop-next-preserved
loop-next-preserved c =
    let kept = c.loop-next.invariant in
    let row = c.in-Some.next.0 in
    let more : length (kept.past ++ row ∷ []) ≡ length kept.past + 1 = length-append kept.past (row ∷ []) in
    let rows_more = used_rows_next kept.past row in
    let bytes_more = used_bytes_next kept.past row in
    let passed = passed_next row c.in-Some.next.1 kept.passed c.in-Some.ensures.given.some c.in-Some.ensures.given.next_stands c.in-Some.ensures.unchanged c.in-Some.ensures.touched.bound in
    elim c.if-next.branch [
      | then-next w ↦
          let size : (if row.used then row.size else 0) ≡ row.size = ap (λ b. if b then row.size else 0) w.if-next.true in
          record {
            past = kept.past ++ row ∷ [];
            passed = passed;
            blocks = omega (arith, w.blocks-is, kept.blocks, rows_more, ap one_if w.if-next.true);
            bytes = omega (arith, w.bytes-is, kept.bytes, bytes_more, w.from-bytes.ensures, size);
            few = omega (arith, w.blocks-is, kept.few, more);
            few_bytes = omega (arith, w.bytes-is, w.from-bytes.ensures, kept.few_bytes, more);
          }
      | else-next w ↦
          let none : (if row.used then row.size else 0) ≡ 0 = ap (λ b. if b then row.size else 0) w.if-next.false in
          record {
            past = kept.past ++ row ∷ [];
            passed = passed;
            blocks = omega (arith, w.blocks-is, kept.blocks, rows_more, ap one_if w.if-next.false);
            bytes = omega (arith, w.bytes-is, kept.bytes, bytes_more, none);
            few = omega (arith, w.blocks-is, kept.few, more);
            few_bytes = omega (arith, w.bytes-is, kept.few_bytes, more);
          }
    ]
