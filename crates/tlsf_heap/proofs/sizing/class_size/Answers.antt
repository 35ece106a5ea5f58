-- Rounded bytes and an alignment's gap are a size.
use Rattle.std.proofs.Common.{sym, ◌∙◌}
use Rattle.tlsf_heap.proofs.Content.Alignments.{asked_whole, round_size}
use Rattle.tlsf_heap.proofs.sizing.class_size.Goals as goal

pub size_asked-requires-clause-few : goal.size_asked-requires-clause-few
size_asked-requires-clause-few c = (round_size c.args.n c.in_ok-round.field-0 (sym c.round.ensures ∙ c.in_ok-round.was)).at_most

pub class_for-requires-clause-whole : goal.class_for-requires-clause-whole
class_for-requires-clause-whole c = rw c.size_asked.ensures (asked_whole c.args.align c.in_ok-round.field-0 (sym c.is_alignment.ensures ∙ c.if-not-is_alignment.false) (round_size c.args.n c.in_ok-round.field-0 (sym c.round.ensures ∙ c.in_ok-round.was))).0

pub class_for-requires-clause-some : goal.class_for-requires-clause-some
class_for-requires-clause-some c = rw c.size_asked.ensures (asked_whole c.args.align c.in_ok-round.field-0 (sym c.is_alignment.ensures ∙ c.if-not-is_alignment.false) (round_size c.args.n c.in_ok-round.field-0 (sym c.round.ensures ∙ c.in_ok-round.was))).1
