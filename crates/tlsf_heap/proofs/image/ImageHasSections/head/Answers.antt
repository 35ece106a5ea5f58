-- A head's bytes are within the image.
use Rattle.std.proofs.Common.{arith, ◌≡◌, refl, sym, ◌∙◌, ap, List, ℕ}
use Rattle.tlsf_heap.specs.Images.Image.{head_in}
use Rattle.tlsf_heap.proofs.Images.ImageLemmas.{head_read}
use Rattle.tlsf_heap.proofs.image.ImageHasSections.head.Goals as goal

pub returns-clause-value : goal.returns-clause-value
returns-clause-value c =
    let read : c.link_of.result ≡ head_in c.self.inside.bytes.now c.args.class = rw (c.link_of.ensures, c.two_at.ensures, c.number.ensures.value) refl in
    read ∙ ap (λ (bytes : List ℕ). head_in bytes c.args.class) c.self.view_is ∙ sym (head_read c.args.self.now c.args.class (omega (arith, c.number.ensures.below, c.number.ensures.value)))
