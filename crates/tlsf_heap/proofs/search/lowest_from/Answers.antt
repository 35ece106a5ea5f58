-- Bits below the place are cleared; the lowest left is told.
use Rattle.std.proofs.Common.{arith}
use Rattle.tlsf_heap.proofs.Bits.Search.{none_above, lowest_above}
use Rattle.tlsf_heap.proofs.search.lowest_from.Goals as goal

pub returns-then-rest-eq0 : goal.returns-then-rest-eq0
returns-then-rest-eq0 c = none_above c.args.word c.args.from c.if-rest-eq0.true

pub returns : goal.returns
returns c = lowest_above c.args.word c.args.from c.ranges.word.fits (omega (arith, c.if-rest-eq0.false))
