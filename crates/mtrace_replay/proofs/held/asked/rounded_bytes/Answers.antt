-- A block has no more bytes than the greatest size.
use Rattle.std.proofs.Common.{sym, ◌∙◌, arith}
use Rattle.tlsf_class.proofs.RoundingLaws.{round-Some}
use Rattle.mtrace_replay.proofs.held.asked.rounded_bytes.Goals as goal

pub returns-in-Some-clause-small : goal.returns-in-Some-clause-small
returns-in-Some-clause-small c = omega (arith, (round-Some c.asked_size.result c.in-Some.bytes (sym c.round.ensures ∙ c.in-Some.is)).within, c.from.ensures)
