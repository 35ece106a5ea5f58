use Rattle.std.proofs.Common.{refl, subst}
use Rattle.std.proofs.lemmas.List.{get_or_default}
use Rattle.std.proofs.lemmas.List.Elements.{AllWithin-more}
use Rattle.tlsf_c.specs.PlacedPools.{IsEntered}
use Rattle.tlsf_c.proofs.placed_loading.are_entered.Goals as goal

pub loop-range-preserved : goal.loop-range-preserved
loop-range-preserved c =
    let ranges = c.args.ranges.now in
    let pools = c.args.pools.now in
    let k = c.loop-range.range-index in
    (refl, refl, AllWithin-more (IsEntered pools) ranges 0 k c.loop-range.invariant.2 (λ d. subst (IsEntered pools) (get_or_default ranges k (0, 0) d c.loop-range-test.true) (c.if-not-is_entered.ensures.0 refl)))
