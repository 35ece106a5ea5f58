use Rattle.std.proofs.Common.{◌≡◌, ℕ, ◌<◌, length, slice_index_or, refl, sym, ap, ◌∙◌, subst, arith, inl, inr}
use Rattle.std.proofs.lemmas.Bool.{cases_eq, false≢true}
use Rattle.std.proofs.lemmas.List.{get_or_default}
use Rattle.tlsf_c.specs.declared.placed_pool.PlacedPool.{PlacedPool}
use Rattle.tlsf_c.specs.PlacedPools.{AreApart}
use Rattle.tlsf_c.proofs.EntriesMoved.{vacant}
use Rattle.tlsf_c.proofs.placed_loading.are_apart.Goals as goal

pub returns-then-not-is_apart_from : goal.returns-then-not-is_apart_from
returns-then-not-is_apart_from c = (
  (λ yes. absurd (false≢true yes)),
  (λ apart.
      let pools = c.args.pools.now in
      let k = c.loop-k.k in
      c.if-not-is_apart_from.ensures.1 (λ j d above below.
      let within : j < length pools = omega (arith, below) in
      subst (λ (p : PlacedPool). AreApart p (slice_index_or pools j d)) (get_or_default pools k d vacant (omega (arith, above, within))) (apart k j d (omega (arith, above)) within))),
)

pub loop-k-preserved : goal.loop-k-preserved
loop-k-preserved c =
    let pools = c.args.pools.now in
    let k = c.loop-k.k in (
      refl,
      λ i j d so_far below within. elim (cases_eq i k) [
        | inl at ↦
            let is : slice_index_or pools k vacant ≡ slice_index_or pools i d = get_or_default pools k vacant d (omega (arith, at, below, within)) ∙ ap (λ (n : ℕ). slice_index_or pools n d) (sym at) in
            subst (λ (p : PlacedPool). AreApart p (slice_index_or pools j d)) is (c.if-not-is_apart_from.ensures.0 refl j d (omega (arith, at, below)) (omega (arith, within)))
        | inr away ↦ c.loop-k.invariant.1 i j d (omega (arith, so_far, away)) below within
      ],
    )
