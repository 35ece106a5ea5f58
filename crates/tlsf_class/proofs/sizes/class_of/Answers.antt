-- A shift by the level's step gives the class.
use Rattle.std.proofs.Common.{◌∙◌, sym}
use Rattle.tlsf_class.proofs.Shifts.{IsShift, class-small, class-shift}
use Rattle.tlsf_class.proofs.sizes.class_of.Goals as goal

pub returns-then-size-lt-SMALL_END : goal.returns-then-size-lt-SMALL_END
returns-then-size-lt-SMALL_END c = c.new.ensures ∙ sym (class-small c.args.size c.if-size-lt-SMALL_END.true)

pub returns : goal.returns
returns c =
    let e = c.step_shift-shift.ensures in
    let shift : IsShift c.args.size c.step_shift-shift.result =
    record { first = e.first; last = e.last; from = e.from; below = e.below } in
    c.new-2.ensures ∙ sym (class-shift c.args.size c.step_shift-shift.result shift).1
