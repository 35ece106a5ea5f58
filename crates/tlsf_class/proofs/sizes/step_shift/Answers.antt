-- The highest bit tells the level.
use Rattle.tlsf_class.proofs.Shifts.{shift-leading_zeros}
use Rattle.tlsf_class.proofs.sizes.step_shift.Goals as goal

pub overflow_sub-result-3 : goal.overflow_sub-result-3
overflow_sub-result-3 c = (shift-leading_zeros c.args.size c.requires.above c.requires.most).0

pub returns : goal.returns
returns c =
    let shift = (shift-leading_zeros c.args.size c.requires.above c.requires.most).1 in
    record { first = shift.first; last = shift.last; from = shift.from; below = shift.below }
