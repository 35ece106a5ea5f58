-- By cases: one is missing, or their order decides.
use Rattle.std.proofs.Common.{Some, sym, ap, ◌∙◌, subst}
use Rattle.std.specs.Ordering.{is_gt}
use Rattle.mtrace_replay.specs.Cuts.{IsLesser}
use Rattle.mtrace_replay.proofs.BySize.CutLemmas.{lesser_of_none, lesser_alone, lesser_first, lesser_second}
use Rattle.mtrace_replay.proofs.parts.cut.lesser.Goals as goal

pub returns-in_default : goal.returns-in_default
returns-in_default c = subst (λ one. IsLesser one c.args.other c.args.other) (sym c.in_default.is) (lesser_of_none c.args.other)

pub returns-in_default-other : goal.returns-in_default-other
returns-in_default-other c =
    subst (λ one. IsLesser one c.args.other (Some c.in-Some.first)) (sym c.in-Some.is)
    (subst (λ other. IsLesser (Some c.in-Some.first) other (Some c.in-Some.first)) (sym c.in_default-other.is) (lesser_alone c.in-Some.first))

pub returns-then-is_gt : goal.returns-then-is_gt
returns-then-is_gt c =
    subst (λ one. IsLesser one c.args.other (Some c.in-Some-other.second)) (sym c.in-Some.is)
    (subst (λ other. IsLesser (Some c.in-Some.first) other (Some c.in-Some-other.second)) (sym c.in-Some-other.is)
    (lesser_second c.in-Some.first c.in-Some-other.second (sym (c.is_gt.ensures ∙ ap is_gt c.order.ensures) ∙ c.if-is_gt.true)))

pub returns : goal.returns
returns c =
    subst (λ one. IsLesser one c.args.other (Some c.in-Some.first)) (sym c.in-Some.is)
    (subst (λ other. IsLesser (Some c.in-Some.first) other (Some c.in-Some.first)) (sym c.in-Some-other.is)
    (lesser_first c.in-Some.first c.in-Some-other.second (sym (c.is_gt.ensures ∙ ap is_gt c.order.ensures) ∙ c.if-is_gt.false)))
