-- No pool's range changes.
use Rattle.std.proofs.Common.{◌≡◌, subst, IfOk}
use Rattle.std.specs.Prelude.{◌==◌}
use Rattle.std.proofs.lemmas.Result.{IfOk-weaker}
use Rattle.tlsf_region.proofs.Ranges.{free_ranges, still_within, ranges}
use Rattle.tlsf_region.proofs.region.Region.free.Goals as goal

pub invariant_of-self : goal.invariant_of-self
invariant_of-self c =
    let old = c.self.inside.heap.content in
    let after = c.free.ensures in (
      still_within c.free.result c.self.inside.heap c.free.new.self c.self.inside.bytes.items
          (IfOk-weaker c.free.result _ _ (λ done e. subst (λ given. IfOk given (λ new. ranges new ≡ ranges old)) e (free_ranges (λ slot. slot == c.args.ptr.slot) c.args.ptr.place old)) after.ok)
          after.refused.unchanged c.self.invariant.0,
      c.self.invariant.1,
    )
