-- The pools left end within the bytes.
use Rattle.std.proofs.Common.{subst, length, IfOk}
use Rattle.std.proofs.lemmas.Result.{IfOk-weaker}
use Rattle.tlsf_region.specs.Region.{EndBelow}
use Rattle.tlsf_region.proofs.Ranges.{remove_pool_ends, ends_within, ranges}
use Rattle.tlsf_region.proofs.region.Region.remove_pool.Goals as goal

pub invariant_of-self : goal.invariant_of-self
invariant_of-self c =
    let old = c.self.inside.heap.content in
    let bytes = c.self.inside.bytes.items in (
      ends_within c.remove_pool.result c.self.inside.heap c.remove_pool.new.self bytes
          (IfOk-weaker c.remove_pool.result _ _ (λ done e. subst (λ given. IfOk given (λ new. EndBelow (length bytes) (ranges new))) e (remove_pool_ends (length bytes) c.args.base old c.self.invariant.0.pools)) c.remove_pool.ensures.ok)
          c.remove_pool.ensures.refused.unchanged c.self.invariant.0,
      c.self.invariant.1,
    )
