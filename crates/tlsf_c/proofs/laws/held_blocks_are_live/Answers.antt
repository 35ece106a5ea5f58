-- By induction over the run.
use Rattle.tlsf_c.proofs.HeldLaws.{held_blocks}
use Rattle.tlsf_c.proofs.laws.held_blocks_are_live.Goals as goal

pub returns : goal.returns
returns c = λ pools calls tolds old new run apart entries good none own. held_blocks pools apart calls tolds old new run good none entries own
