use Rattle.std.proofs.Common.{rules, ◌≢◌, ◌-◌, ◌<◌, length, map, refl, sym, subst, arith, slice_index_or, ℕ}
use Rattle.std.specs.List.{All}
use Rattle.std.proofs.lemmas.List.Elements.{All-set}
use Rattle.std.proofs.Math.Logic.{∥∥₁_map, ∥∥₁_elim}
use Rattle.tlsf_heap.specs.Counted.{Counted, range_of}
use Rattle.tlsf_c.specs.declared.placed_pool.PlacedPool.{PlacedPool}
use Rattle.tlsf_c.specs.PlacedPools.{IsPlaced, IsClearOf, CanBePlaced, placed_range}
use Rattle.tlsf_c.specs.RangeMoves.{IsRangeAdded}
use Rattle.tlsf_c.specs.LiveFigures.{IsLiveChange}
use Rattle.tlsf_c.proofs.LiveChanges.{same_figures}
use Rattle.tlsf_c.proofs.EntriesMoved.{vacant, apart_after, entries_added}
use Rattle.tlsf_c.proofs.placed_pools.add_pool_at.Goals as goal

-- the new pool is clear of the others, and begins where none of them does
pub invariant_of-heap : goal.invariant_of-heap
invariant_of-heap c =
    let heap = c.args.heap.now in
    let k = c.in-Some.vacant in
    let first : ℕ = c.args.first in
    let reach : ℕ = c.args.bytes - 8 in
    let place : ℕ = c.args.place in
    let within : k < length heap.pools = c.in-Some.ensures.0 in
    let old : PlacedPool = slice_index_or heap.pools k vacant in
    let new : PlacedPool = record { first = first; reach = reach; place = place; number = old.number; owner = old.owner } in
    let can : CanBePlaced first c.args.bytes = search rules in
    let clear : All (IsClearOf first reach) heap.pools = search rules in
    let added = subst (λ (h : Counted). IsRangeAdded place c.args.bytes (map range_of h.content.pools) (map range_of c.enter.new.heap.content.pools)) c.heap.ensures.value c.in-Ok.ensures.ranges in
    let placed : IsPlaced new = record {
      places = omega (arith, added.ends);
      addresses = omega (arith, can.ends);
      some = λ h. can.some;
      place_in_units = added.in_units;
      first_in_units = can.in_units;
    } in
    let begins_elsewhere : (i : ℕ) (d : PlacedPool) → i < length heap.pools → 0 < (slice_index_or heap.pools i d).reach → (slice_index_or heap.pools i d).place ≢ place = λ i d h some same.
    ∥∥₁_elim heap.entries (λ a b. absurd a) (λ are. added.elsewhere (placed_range (slice_index_or heap.pools i d)) (are.of_ranges i d h some) same) in
    record {
      placed = All-set IsPlaced heap.pools k new placed heap.placed;
      apart = apart_after heap.pools k new within heap.apart (λ i d away h. (
        record { addresses = λ some positive below above. clear i d h some above below; places = λ some positive. begins_elsewhere i d h some },
        record { addresses = λ positive. clear i d h; places = λ positive some same. begins_elsewhere i d h some (sym same) },
      ));
      figures_are = same_figures heap.figures heap.handle.value.content c.enter.new.heap.content (subst (λ (h : Counted). IsLiveChange 0 0 0 0 h.content c.enter.new.heap.content) c.heap.ensures.value c.in-Ok.ensures.live) heap.figures_are;
      entries = ∥∥₁_map heap.entries (entries_added heap.pools k new within place c.args.bytes (map range_of heap.handle.value.content.pools) (map range_of c.enter.new.heap.content.pools) c.in-Some.ensures.1 added refl (omega (arith, can.long)));
    }
