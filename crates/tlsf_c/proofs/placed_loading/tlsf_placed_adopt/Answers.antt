-- The figures are those of what was counted.
use Rattle.std.proofs.Common.{◌≡◌, ℕ, List, map, refl, sym, ap, ◌∙◌, subst, arith}
use Rattle.tlsf_heap.specs.Content.{Content, blocks_of}
use Rattle.tlsf_heap.specs.Counted.{Counted, range_of}
use Rattle.tlsf_heap.specs.Implied.{live_blocks}
use Rattle.tlsf_heap.specs.Room.{live_bytes}
use Rattle.tlsf_heap.proofs.Good.LiveBytes.{live_most}
use Rattle.tlsf_c.specs.Adopting.{FitEntries}
use Rattle.tlsf_c.proofs.LiveChanges.{fronts_least}
use Rattle.tlsf_c.proofs.placed_loading.tlsf_placed_adopt.Goals as goal

pub overflow_mul-bytes : goal.overflow_mul-bytes
overflow_mul-bytes c =
    let good = c.keeps_good.ensures.good in
    let content = c.heap-inner.result.now.content in
    omega (arith, c.count_live-live.ensures.blocks, fronts_least content good, live_most content good)

pub overflow_sub-bytes : goal.overflow_sub-bytes
overflow_sub-bytes c =
    let good = c.keeps_good.ensures.good in
    let content = c.heap-inner.result.now.content in
    omega (arith, c.count_live-live.ensures.blocks, c.count_live-live.ensures.bytes, fronts_least content good)

pub overflow_cast-heap : goal.overflow_cast-heap
overflow_cast-heap c =
    let good = c.keeps_good.ensures.good in
    let content = c.heap-inner.result.now.content in
    omega (arith, c.count_live-live.ensures.blocks, fronts_least content good, live_most content good)

pub returns-clause-whole : goal.returns-clause-whole
returns-clause-whole c = λ served.
    let good = c.keeps_good.ensures.good in
    let content = c.heap-inner.result.now.content in
    let now = c.count_live-live.new.heap.content in
    let first : now ≡ c.heap.result.now.content = c.count_live-live.ensures.unchanged.content ∙ ap (λ (h : Counted). h.content) c.heap-inner.ensures.value ∙ c.pools-ranges.ensures.read.unchanged.content in
    let ranges : c.as_slice.result.now ≡ map range_of now.pools = c.as_slice.ensures.value ∙ c.pools-ranges.ensures.value ∙ sym (ap (λ (k : Content ℕ). map range_of k.pools) first) in
    let blocks : live_blocks now ≡ live_blocks content = ap (λ (k : Content ℕ). live_blocks k) c.count_live-live.ensures.unchanged.content in
    let bytes : live_bytes (blocks_of now.pools) ≡ live_bytes (blocks_of content.pools) = ap (λ (k : Content ℕ). live_bytes (blocks_of k.pools)) c.count_live-live.ensures.unchanged.content in
    record {
      fit = subst (λ (rs : List (ℕ × ℕ)). FitEntries rs c.args.heap.now.pools) ranges (c.if-not-fit.ensures.0 refl);
      figures_are = record {
        blocks = omega (arith, c.count_live-live.ensures.blocks, blocks, fronts_least content good, live_most content good);
        bytes = omega (arith, c.count_live-live.ensures.blocks, c.count_live-live.ensures.bytes, fronts_least content good, live_most content good, bytes);
        most = omega (arith, c.max-most_bytes.ensures);
        again = c.lowest_bits.ensures;
      };
    }
