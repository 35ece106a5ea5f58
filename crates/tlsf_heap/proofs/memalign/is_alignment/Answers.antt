-- A power of two has one bit.
use Rattle.std.proofs.Common.{refl, sym, ◌∙◌}
use Rattle.std.proofs.lemmas.Bool.{le-leb}
use Rattle.tlsf_heap.proofs.Content.Alignments.{alignment_is}
use Rattle.tlsf_heap.proofs.memalign.is_alignment.Goals as goal

pub returns-then-align-le-GREATEST_ALIGNMENT : goal.returns-then-align-le-GREATEST_ALIGNMENT
returns-then-align-le-GREATEST_ALIGNMENT c =
    c.is_power_of_two.ensures ∙ sym (alignment_is c.args.align ∙ rw (le-leb c.args.align 536870912 c.if-align-le-GREATEST_ALIGNMENT.true) refl)
