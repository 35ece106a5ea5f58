-- One entry more in each turn, from the end of the one before.
use Rattle.std.proofs.Common.{◌<◌, ◌∙◌, sym, arith, inl, inr}
use Rattle.tlsf_heap.specs.Images.Image.{two_at, pools_at}
use Rattle.tlsf_heap.proofs.Images.PoolLemmas.{pools_all, pools_on, pools_off, pools_end}
use Rattle.tlsf_heap.proofs.image.header.has_pools.Goals as goal
use Rattle.tlsf_heap.proofs.image.header.has_pools.Goals.{then-not-is_pool-via-then-not-is_pool, then-not-is_pool-via-else-not-is_pool+then-not-are_zero}

pub loop-number-init : goal.loop-number-init
loop-number-init c = pools_all c.args.bytes.now c.requires.few

pub returns-then-not-is_pool : goal.returns-then-not-is_pool
returns-then-not-is_pool c =
    let within : c.loop-number.number < two_at pools_at c.args.bytes.now = rw (c.from-number-end.ensures, c.two_at-2.ensures) at c.loop-number-test.true in
    elim c.then-not-is_pool.branch [
      | then-not-is_pool-via-then-not-is_pool w ↦
          sym (pools_off c.args.bytes.now c.loop-number.from c.loop-number.number (two_at pools_at c.args.bytes.now) within (inl (rw (c.is_pool.ensures, c.from-count.ensures, c.two_at.ensures, c.pool_in-pool.ensures) at w.if-not-is_pool.true))) ∙ c.loop-number.invariant
      | then-not-is_pool-via-else-not-is_pool+then-not-are_zero w ↦
          sym (pools_off c.args.bytes.now c.loop-number.from c.loop-number.number (two_at pools_at c.args.bytes.now) within (inr (rw w.are_zero.ensures at w.if-not-are_zero.true))) ∙ c.loop-number.invariant
    ]

pub loop-number-preserved : goal.loop-number-preserved
loop-number-preserved c =
    let within : c.loop-number.number < two_at pools_at c.args.bytes.now = rw (c.from-number-end.ensures, c.two_at-2.ensures) at c.loop-number-test.true in
    let is = rw (c.is_pool.ensures, c.from-count.ensures, c.two_at.ensures, c.pool_in-pool.ensures) at c.if-not-is_pool.false in
    let zeros = rw c.are_zero.ensures at c.if-not-are_zero.false in
    rw (c.from.ensures, c.from-in-loop-number.ensures, c.pool_in-pool.ensures) (sym (pools_on c.args.bytes.now c.loop-number.from c.loop-number.number (two_at pools_at c.args.bytes.now) within is zeros) ∙ c.loop-number.invariant)

pub returns : goal.returns
returns c =
    let all = rw (c.from-number-end.ensures, c.two_at-2.ensures) at c.loop-number-test.false in
    sym (pools_end c.args.bytes.now c.loop-number.from c.loop-number.number (two_at pools_at c.args.bytes.now) (omega (arith, all))) ∙ c.loop-number.invariant
