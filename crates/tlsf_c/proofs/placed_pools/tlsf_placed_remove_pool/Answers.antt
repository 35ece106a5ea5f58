use Rattle.std.proofs.Common.{rules, ◌≡◌, ◌<◌, length, map, refl, subst, arith, slice_index_or}
use Rattle.std.proofs.lemmas.List.{get_or_default}
use Rattle.std.proofs.lemmas.List.Elements.{All-set}
use Rattle.std.proofs.Math.Logic.{∥∥₁_map}
use Rattle.tlsf_heap.specs.Counted.{Counted, range_of}
use Rattle.tlsf_c.specs.declared.placed_pool.PlacedPool.{PlacedPool}
use Rattle.tlsf_c.specs.PlacedPools.{IsPlaced}
use Rattle.tlsf_c.specs.RangeMoves.{IsRangeRemoved}
use Rattle.tlsf_c.specs.LiveFigures.{IsLiveChange}
use Rattle.tlsf_c.proofs.LiveChanges.{same_figures}
use Rattle.tlsf_c.proofs.EntriesMoved.{vacant, apart_without, entries_removed}
use Rattle.tlsf_c.proofs.placed_pools.tlsf_placed_remove_pool.Goals as goal

-- the entry holds none: it is apart from all, and the others are those of the pools that are left
pub invariant_of-heap : goal.invariant_of-heap
invariant_of-heap c =
    let heap = c.args.heap.now in
    let k = c.args.entry in
    let within : k < length heap.pools = search rules in
    let gone : PlacedPool = slice_index_or heap.pools k vacant in
    let new : PlacedPool = record { first = 0; reach = 0; place = 0; number = gone.number; owner = gone.owner } in
    let is : slice_index_or heap.pools k gone ≡ gone = get_or_default heap.pools k gone vacant within in
    let removed = subst (λ (h : Counted). IsRangeRemoved gone.place (map range_of h.content.pools) (map range_of c.leave.new.heap.content.pools)) c.heap.ensures.value (subst (λ n. IsRangeRemoved n (map range_of c.heap.result.now.content.pools) (map range_of c.leave.new.heap.content.pools)) c.from.ensures c.in-Ok.ensures.ranges) in
    let none : IsPlaced new = record { places = omega arith; addresses = omega arith; some = λ h. absurd (omega (arith, h)); place_in_units = refl; first_in_units = refl } in
    record {
      placed = All-set IsPlaced heap.pools k new none heap.placed;
      apart = apart_without heap.pools k new within refl heap.apart;
      figures_are = same_figures heap.figures heap.handle.value.content c.leave.new.heap.content (subst (λ (h : Counted). IsLiveChange 0 0 0 0 h.content c.leave.new.heap.content) c.heap.ensures.value c.in-Ok.ensures.live) heap.figures_are;
      entries = ∥∥₁_map heap.entries (entries_removed heap.pools k new within (map range_of heap.handle.value.content.pools) (map range_of c.leave.new.heap.content.pools) gone heap.apart is (omega (arith, c.if-pool-eq0.false)) removed refl);
    }
