-- The rows that are counted are those of the pool.
use Rattle.std.proofs.Common.{ℕ, ◌+◌, slice_index_or, sym, ap, ◌∙◌, subst, arith}
use Rattle.tlsf_heap.specs.Content.{Content}
use Rattle.tlsf_heap.specs.Counted.{Counted}
use Rattle.tlsf_heap.specs.Good.{AreGoodPools}
use Rattle.tlsf_c.proofs.FewRows.{length_of, rows_few}
use Rattle.tlsf_c.proofs.LivePools.{rows_never_refused, counted_pool, few_live}
use Rattle.tlsf_c.proofs.live_count.count_live.Goals as goal
use Rattle.tlsf_c.proofs.live_count.count_live.Goals.{in-Ok, in_default}

pub count_rows-counted-requires-clause-few : goal.count_rows-counted-requires-clause-few
count_rows-counted-requires-clause-few c =
    let good = subst (λ (content : Content ℕ). AreGoodPools 0 content.pools) (sym c.loop-range.invariant.unchanged.content) c.keeps_good.ensures.good.pools_good in
    omega (arith, ap length_of c.in-Ok.ensures.found.ok, rows_few (slice_index_or c.as_slice-ranges.result.now c.loop-range.range-index (0, 0)).0 0 c.loop-range.heap.content.pools good)

pub overflow_add-blocks : goal.overflow_add-blocks
overflow_add-blocks c =
    let kept = c.loop-range.invariant in
    let content = c.args.heap.now.content in
    let counted = counted_pool content.pools c.loop-range.heap.content.pools c.as_slice-ranges.result.now c.loop-range.range-index c.count_rows-counted.result.blocks c.count_rows-counted.result.bytes _
    c.keeps_good.ensures.good.pools_good kept.ranges (ap (λ (k : Content ℕ). k.pools) kept.unchanged.content) c.loop-range-test.true c.in-Ok.ensures.found.ok c.count_rows-counted.ensures.blocks c.count_rows-counted.ensures.bytes in
    omega (arith, kept.blocks, counted.blocks_more, few_live content (c.loop-range.range-index + 1) c.keeps_good.ensures.good)

pub overflow_add-bytes : goal.overflow_add-bytes
overflow_add-bytes c =
    let kept = c.loop-range.invariant in
    let content = c.args.heap.now.content in
    let counted = counted_pool content.pools c.loop-range.heap.content.pools c.as_slice-ranges.result.now c.loop-range.range-index c.count_rows-counted.result.blocks c.count_rows-counted.result.bytes _
    c.keeps_good.ensures.good.pools_good kept.ranges (ap (λ (k : Content ℕ). k.pools) kept.unchanged.content) c.loop-range-test.true c.in-Ok.ensures.found.ok c.count_rows-counted.ensures.blocks c.count_rows-counted.ensures.bytes in
    omega (arith, kept.bytes, counted.bytes_more, few_live content (c.loop-range.range-index + 1) c.keeps_good.ensures.good)

pub loop-range-preserved : goal.loop-range-preserved
loop-range-preserved c =
    let kept = c.loop-range.invariant in
    let pools = c.args.heap.now.content.pools in
    let now = c.loop-range.heap.content.pools in
    let ranges = c.as_slice-ranges.result.now in
    let k = c.loop-range.range-index in
    let good = c.keeps_good.ensures.good.pools_good in
    let same = ap (λ (content : Content ℕ). content.pools) kept.unchanged.content in
    elim c.match-first.branch [
      | in-Ok w ↦
          let read = w.count_rows-counted.ensures.read in
          let counted = counted_pool pools now ranges k w.count_rows-counted.result.blocks w.count_rows-counted.result.bytes _ good kept.ranges same c.loop-range-test.true w.in-Ok.ensures.found.ok w.count_rows-counted.ensures.blocks w.count_rows-counted.ensures.bytes in
          record {
            ranges = kept.ranges;
            blocks = omega (arith, w.blocks-is, kept.blocks, counted.blocks_more);
            bytes = omega (arith, w.bytes-is, kept.bytes, counted.bytes_more);
            unchanged = record {
              content = ap (λ (h : Counted). h.content) w.heap-is ∙ read.unchanged.content ∙ c.first.ensures.read.unchanged.content ∙ kept.unchanged.content;
              rows = ap (λ (h : Counted). h.rows) w.heap-is ∙ read.unchanged.rows ∙ c.first.ensures.read.unchanged.rows ∙ kept.unchanged.rows;
            };
            floor = omega (arith, ap (λ (h : Counted). h.touches) w.heap-is, read.bound.floor, c.first.ensures.read.bound.floor, kept.floor);
          }
      | in_default w ↦ absurd (rows_never_refused pools now ranges k w.in_default.field-0 good kept.ranges same c.loop-range-test.true w.in_default.ensures.found.refused)
    ]
