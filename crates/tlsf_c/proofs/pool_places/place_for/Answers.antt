use Rattle.std.proofs.Common.{ℕ, ◌+◌, ◌<◌, List, refl, sym, ◌∙◌, subst, arith, slice_index_or, inl, inr}
use Rattle.std.proofs.lemmas.Bool.{cases_eq, false≢true}
use Rattle.tlsf_c.specs.declared.placed_pool.PlacedPool.{PlacedPool}
use Rattle.tlsf_c.specs.Fronts.{front}
use Rattle.tlsf_c.specs.PoolPlaces.{HasRoom, IsNextLike, IsFullBehind}
use Rattle.tlsf_c.proofs.EntriesMoved.{vacant, at_index}
use Rattle.tlsf_c.proofs.PlacesLeft.{one_place, none_left, full_behind}
use Rattle.tlsf_c.proofs.pool_places.place_for.Goals as goal
use Rattle.tlsf_c.proofs.pool_places.place_for.Goals.{else-pool-ne0-via-then-pool-ne0+else-has_room-2, else-pool-ne0-via-else-pool-ne0}

pub loop-pool-preserved : goal.loop-pool-preserved
loop-pool-preserved c =
    let pools : List PlacedPool = c.args.pools.now in
    let pool : PlacedPool = slice_index_or pools c.loop-pool.pool-index vacant in
    let next : IsNextLike c.args.align c.args.address (pool.place + pool.reach + front) c.next_like-place.result =
    subst (λ (n : ℕ). IsNextLike c.args.align c.args.address (n + pool.reach + front) c.next_like-place.result) c.from.ensures c.next_like-place.ensures in
    let none : 0 < pool.reach → HasRoom c.next_like-place.result c.args.bytes pools → ⊥ = elim c.else-pool-ne0.branch [
      | else-pool-ne0-via-then-pool-ne0+else-has_room-2 w ↦ λ present roomy. false≢true (sym w.if-has_room-2.false ∙ w.has_room-then-pool-ne0.ensures.1 roomy)
      | else-pool-ne0-via-else-pool-ne0 w ↦ λ present. absurd (omega (arith, present, w.if-pool-ne0.false))
    ] in (
      refl,
      refl,
      refl,
      refl,
      λ k d from below. elim (cases_eq k c.loop-pool.pool-index) [
        | inr before ↦ c.loop-pool.invariant.4 k d from (omega (arith, below, before))
        | inl here ↦ at_index (IsFullBehind c.args.align c.args.address c.args.bytes pools) pools k c.loop-pool.pool-index d here (omega arith)
            (full_behind c.args.align c.args.address c.args.bytes c.next_like-place.result pools pool (λ present. next) none)
      ],
    )

pub returns : goal.returns
returns c =
    none_left c.args.align c.args.address c.args.bytes c.args.pools.now (omega (arith, c.next_like-lowest.ensures.near))
    (λ place next room. false≢true (sym c.if-has_room.false ∙ c.has_room.ensures.1 (subst (λ (n : ℕ). HasRoom n c.args.bytes c.args.pools.now) (one_place c.args.align c.args.address 0 place c.next_like-lowest.result next c.next_like-lowest.ensures) room))) (λ k d below. c.loop-pool.invariant.4 k d (omega arith) (omega (arith, below, c.loop-pool-test.false)))
