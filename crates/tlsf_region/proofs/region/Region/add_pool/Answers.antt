-- The new pool ends within the bytes.
use Rattle.std.proofs.Common.{◌+◌, ◌≤◌, subst, length, IfOk, arith}
use Rattle.std.proofs.lemmas.Result.{IfOk-weaker}
use Rattle.tlsf_region.specs.Region.{EndBelow}
use Rattle.tlsf_region.proofs.Ranges.{add_pool_ends, ends_within, ranges}
use Rattle.tlsf_region.proofs.region.Region.add_pool.Goals as goal

pub invariant_of-self : goal.invariant_of-self
invariant_of-self c =
    let old = c.self.inside.heap.content in
    let bytes = c.self.inside.bytes.items in
    let below : c.args.base + c.args.bytes ≤ length bytes = omega (arith, c.if-base-len.false, c.if-bytes-len.false, c.len-len.ensures) in (
      ends_within c.add_pool.result c.self.inside.heap c.add_pool.new.self bytes
          (IfOk-weaker c.add_pool.result _ _ (λ done e. subst (λ given. IfOk given (λ new. EndBelow (length bytes) (ranges new))) e (add_pool_ends (length bytes) c.args.base c.args.bytes old below c.self.invariant.0.pools)) c.add_pool.ensures.ok)
          c.add_pool.ensures.refused.unchanged c.self.invariant.0,
      c.self.invariant.1,
    )
