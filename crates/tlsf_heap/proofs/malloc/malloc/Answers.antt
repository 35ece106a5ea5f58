-- Bytes rounded up are a size.
use Rattle.std.proofs.Common.{sym, ◌∙◌}
use Rattle.tlsf_heap.proofs.Content.Alignments.{round_size}
use Rattle.tlsf_heap.proofs.malloc.malloc.Goals as goal

pub allocate-requires-clause-size : goal.allocate-requires-clause-size
allocate-requires-clause-size c = round_size c.args.n c.in_ok-asked.asked (sym c.round.ensures ∙ c.in_ok-asked.ensures.ok_part)
