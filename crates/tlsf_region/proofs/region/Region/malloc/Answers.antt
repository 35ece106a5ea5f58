-- No pool's range changes.
use Rattle.std.proofs.Common.{◌≡◌, subst, IfOk}
use Rattle.std.proofs.lemmas.Result.{IfOk-weaker}
use Rattle.tlsf_region.proofs.Ranges.{malloc_ranges, still_within, ranges}
use Rattle.tlsf_region.proofs.region.Region.malloc.Goals as goal

pub invariant_of-self : goal.invariant_of-self
invariant_of-self c =
    let old = c.self.inside.heap.content in
    let after = c.malloc.ensures in (
      still_within c.malloc.result c.self.inside.heap c.malloc.new.self c.self.inside.bytes.items
          (IfOk-weaker c.malloc.result _ _ (λ ptr e. subst (λ given. IfOk given (λ new. ranges new.1 ≡ ranges old)) e.ok (malloc_ranges ptr.slot c.args.n old)) after.ok)
          after.refused.unchanged c.self.invariant.0,
      c.self.invariant.1,
    )
