-- No heap has a block of more bytes.
use Rattle.std.proofs.Common.{refl, arith}
use Rattle.tlsf_c.proofs.PlacedLemmas.{refuses_above}
use Rattle.tlsf_c.proofs.placed_blocks.refusal_of.Goals as goal

pub returns-then-bytes-eq0 : goal.returns-then-bytes-eq0
returns-then-bytes-eq0 c = λ slot content. (rw c.if-bytes-eq0.true refl)

pub returns : goal.returns
returns c = λ slot content. refuses_above slot c.args.bytes content (omega (arith, c.requires c.if-bytes-eq0.false))
