-- The block picked has room for the gap in front and for the bytes.
use Rattle.std.proofs.Common.{sym, ◌∙◌}
use Rattle.tlsf_heap.proofs.Content.Alignments.{asked_whole, round_size}
use Rattle.tlsf_heap.proofs.memalign.memalign.Goals as goal

pub size_asked-requires-clause-few : goal.size_asked-requires-clause-few
size_asked-requires-clause-few c = (round_size c.args.n c.in_ok-asked.asked (sym c.round.ensures ∙ c.in_ok-asked.ensures.ok_part)).at_most

pub pick-requires-clause-whole : goal.pick-requires-clause-whole
pick-requires-clause-whole c = rw c.size_asked.ensures (asked_whole c.args.align c.in_ok-asked.asked (sym c.is_alignment.ensures ∙ c.if-not-is_alignment.false) (round_size c.args.n c.in_ok-asked.asked (sym c.round.ensures ∙ c.in_ok-asked.ensures.ok_part))).0

pub pick-requires-clause-some : goal.pick-requires-clause-some
pick-requires-clause-some c = rw c.size_asked.ensures (asked_whole c.args.align c.in_ok-asked.asked (sym c.is_alignment.ensures ∙ c.if-not-is_alignment.false) (round_size c.args.n c.in_ok-asked.asked (sym c.round.ensures ∙ c.in_ok-asked.ensures.ok_part))).1

pub split_aligned-requires-clause-size : goal.split_aligned-requires-clause-size
split_aligned-requires-clause-size c = round_size c.args.n c.in_ok-asked.asked (sym c.round.ensures ∙ c.in_ok-asked.ensures.ok_part)
