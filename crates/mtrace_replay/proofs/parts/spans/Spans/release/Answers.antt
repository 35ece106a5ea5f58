-- An address without a block of a class changes no span.
use Rattle.std.proofs.Common.{nat_eq, ◌≡◌, List, [], ◌∷◌, map, None, refl, sym, ap, ◌∙◌}
use Rattle.std.specs.HashMap.{get}
use Rattle.mtrace_replay.specs.declared.parts.span.Span.{Span}
use Rattle.mtrace_replay.specs.Span.{released}
use Rattle.mtrace_replay.specs.Spans.{range_released}
use Rattle.mtrace_replay.proofs.parts.spans.Spans.release.Goals as goal

unchanged : (spans : List Span) → spans ≡ map (released None) spans
unchanged [] = refl
unchanged (span ∷ spans) = ap (λ rest. span ∷ rest) (unchanged spans)

pub returns-in_default-clause-spans : goal.returns-in_default-clause-spans
returns-in_default-clause-spans c =
    unchanged c.args.self.now.all ∙ ap (λ address. map (released (range_released (get nat_eq c.args.self.now.ranges) address)) c.args.self.now.all) (sym c.in_default.is)

pub returns-in_default-remove-clause-spans : goal.returns-in_default-remove-clause-spans
returns-in_default-remove-clause-spans c =
    let ranges = get nat_eq c.args.self.now.ranges in
    let none = sym c.in_default-remove.is ∙ c.remove.ensures.value ∙ ap ranges c.value.ensures.value in
    unchanged c.args.self.now.all ∙ ap (λ range. map (released range) c.args.self.now.all) none
    ∙ ap (λ address. map (released (range_released ranges address)) c.args.self.now.all) (sym c.in-Some.is)
