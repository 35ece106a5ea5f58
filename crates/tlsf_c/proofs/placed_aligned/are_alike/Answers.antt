use Rattle.std.proofs.Common.{ℕ, ◌-◌, ap, ◌∙◌, arith, slice_index_or, bit_and, inl, inr}
use Rattle.std.proofs.lemmas.Bool.{cases_eq}
use Rattle.tlsf_c.specs.declared.placed_pool.PlacedPool.{PlacedPool}
use Rattle.tlsf_c.specs.PlacedPools.{IsAlike}
use Rattle.tlsf_c.proofs.EntriesMoved.{vacant, at_index}
use Rattle.tlsf_c.proofs.Alike.{same_bits}
use Rattle.tlsf_c.proofs.placed_aligned.are_alike.Goals as goal
use Rattle.tlsf_c.proofs.placed_aligned.are_alike.Goals.{else-pool-ne0-via-then-pool-ne0+else-pool-mask, else-pool-ne0-via-else-pool-ne0}

pub loop-pool-preserved : goal.loop-pool-preserved
loop-pool-preserved c = λ k d below some. elim (cases_eq k c.loop-pool.pool-index) [
  | inr before ↦ c.loop-pool.invariant k d (omega (arith, below, before)) some
  | inl here ↦
      let pool : PlacedPool = slice_index_or c.args.pools.now c.loop-pool.pool-index vacant in
      at_index (IsAlike c.args.align) c.args.pools.now k c.loop-pool.pool-index d here (omega arith) (elim c.else-pool-ne0.branch [
        | else-pool-ne0-via-then-pool-ne0+else-pool-mask w ↦ λ positive.
            same_bits c.args.align pool.first pool.place c.requires (w.if-pool-mask.false ∙ ap (λ (n : ℕ). bit_and n (c.args.align - 1)) w.from.ensures)
        | else-pool-ne0-via-else-pool-ne0 w ↦ λ positive. absurd (omega (arith, positive, w.if-pool-ne0.false))
      ]) some
]
