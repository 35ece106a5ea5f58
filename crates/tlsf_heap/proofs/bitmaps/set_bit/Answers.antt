-- A bit of the word is a power below its end.
use Rattle.std.proofs.Common.{arith}
use Rattle.std.proofs.Math.Pow.{pow-lt}
use Rattle.std.proofs.lemmas.Nat.{or_lt}
use Rattle.tlsf_class.specs.Classes.{levels}
use Rattle.tlsf_heap.proofs.bitmaps.set_bit.Goals as goal

pub returns-clause-below : goal.returns-clause-below
returns-clause-below c word bit = or_lt levels c.args.word _ word (omega (arith, pow-lt {i = c.args.bit} {j = levels} bit))
