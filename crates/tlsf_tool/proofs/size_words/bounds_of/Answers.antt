-- Each bound is read, or its fault told.
use Rattle.tlsf_tool.proofs.size_words.bounds_of.Goals as goal

pub returns-in_err-blocks : goal.returns-in_err-blocks
returns-in_err-blocks c = rw c.from_residual.ensures (record { given = tt; other = λ bounds has. c.in_err-blocks.ensures.other bounds.blocks has.0 })

pub returns-in_err-largest : goal.returns-in_err-largest
returns-in_err-largest c = rw c.from_residual-in_err-largest.ensures (record { given = tt; other = λ bounds has. c.in_err-largest.ensures.other bounds.largest has.1 })
