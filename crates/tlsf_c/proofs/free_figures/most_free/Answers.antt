-- The next request needs the class that is told.
use Rattle.std.proofs.Common.{◌≡◌, ℕ, ◌+◌, ◌-◌, ◌∙◌, sym, ap, subst, arith, Option, Some}
use Rattle.std.specs.Prelude.{option_and_then}
use Rattle.tlsf_class.specs.Classes.{need}
use Rattle.tlsf_class.specs.Rounding.{round}
use Rattle.tlsf_class.proofs.ClassLaws.{le-low_need}
use Rattle.tlsf_class.proofs.RoundingLaws.{round-Some}
use Rattle.tlsf_c.specs.FreeFigures.{IsBelowClass}
use Rattle.tlsf_c.proofs.free_figures.most_free.Goals as goal

pub class_for-requires-clause-whole : goal.class_for-requires-clause-whole
class_for-requires-clause-whole c = (round-Some (c.from.result + 1) c.in-Some.size (sym c.in-Some.ensures)).whole

pub class_for-requires-clause-some : goal.class_for-requires-clause-some
class_for-requires-clause-some c = omega (arith, (round-Some (c.from.result + 1) c.in-Some.size (sym c.in-Some.ensures)).least)

pub overflow_sub-result : goal.overflow_sub-result
overflow_sub-result c =
    let nearest = round-Some (c.from.result + 1) c.in-Some.size (sym c.in-Some.ensures) in
    omega (arith, c.low.ensures, le-low_need c.in-Some.size c.in-Some-class_for.class (sym c.in-Some-class_for.ensures), nearest.least, nearest.whole)

pub returns-in-Some-class_for : goal.returns-in-Some-class_for
returns-in-Some-class_for c =
    let nearest = round-Some (c.from.result + 1) c.in-Some.size (sym c.in-Some.ensures) in
    let needed : need c.in-Some.size ≡ Some c.in-Some-class_for.class = sym c.in-Some-class_for.ensures in
    let rounds : Some c.in-Some.size ≡ round (c.args.largest + 1) = c.in-Some.ensures ∙ ap (λ (n : ℕ). round (n + 1)) c.from.ensures in
    let least = le-low_need c.in-Some.size c.in-Some-class_for.class needed in
    subst (λ (m : Option ℕ). IsBelowClass (c.low.result - 16) (option_and_then need m)) rounds
    (subst (IsBelowClass (c.low.result - 16)) (sym needed) (omega (arith, c.low.ensures, least, nearest.least, nearest.whole)))
