-- The class by the highest bit is the paper's mapping.
use Rattle.tlsf_class.proofs.Shifts.{class-highest_bit}
use Rattle.tlsf_class.proofs.laws.mapping.Goals as goal

pub returns : goal.returns
returns c = class-highest_bit
