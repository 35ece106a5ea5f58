-- The class of the next lowest size is the least that serves.
use Rattle.std.proofs.Common.{sym, ap, ◌∙◌, arith, Some}
use Rattle.tlsf_class.proofs.ClassLaws.{need_above}
use Rattle.tlsf_class.proofs.Shifts.{class-small, need-small, low-last}
use Rattle.tlsf_class.proofs.sizes.class_for.Goals as goal

pub returns-then-size-lt-SMALL_END : goal.returns-then-size-lt-SMALL_END
returns-then-size-lt-SMALL_END c =
    ap Some (c.new.ensures ∙ sym (class-small c.args.size c.if-size-lt-SMALL_END.true)) ∙ sym (need-small c.args.size c.requires.whole c.if-size-lt-SMALL_END.true)

pub returns-then-size-gt-GREATEST_LOW : goal.returns-then-size-gt-GREATEST_LOW
returns-then-size-gt-GREATEST_LOW c = sym (need_above c.args.size (omega (arith, low-last)))

pub next_low-requires-clause-most : goal.next_low-requires-clause-most
next_low-requires-clause-most c = omega (arith, low-last)
