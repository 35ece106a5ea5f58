-- A record's bytes are within the image.
use Rattle.std.proofs.Common.{◌<◌, List, ℕ, sym, subst, ap, arith, ◌∙◌}
use Rattle.tlsf_heap.specs.Images.Image.{two_at, count_at, record_in}
use Rattle.tlsf_heap.proofs.Images.ImageLemmas.{record_read, records_count, whole_length}
use Rattle.tlsf_heap.proofs.image.ImageHasSections.record.Goals as goal

pub record_in-requires : goal.record_in-requires
record_in-requires c =
    let below : c.args.slot < two_at count_at c.self.inside.bytes.now =
    subst (λ (bytes : List ℕ). c.args.slot < two_at count_at bytes) (sym c.self.view_is) (subst (λ (n : ℕ). c.args.slot < n) (records_count c.args.self.now) c.requires) in
    omega (arith, below, whole_length c.self.inside.bytes.now c.self.invariant)

pub returns-clause-value : goal.returns-clause-value
returns-clause-value c =
    c.record_in.ensures.value ∙ ap (λ (bytes : List ℕ). record_in bytes c.args.slot) c.self.view_is ∙ sym (record_read c.args.self.now c.args.slot (subst (λ (n : ℕ). c.args.slot < n) (records_count c.args.self.now) c.requires))
