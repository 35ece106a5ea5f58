-- One verdict more, by whether it serves.
use Rattle.std.proofs.Common.{ap, sym, ◌∙◌, Some, None, ◌+◌}
use Rattle.std.specs.Option.{option_or}
use Rattle.mtrace_replay.specs.declared.runs.fitted.Fitted.{Fitted}
use Rattle.mtrace_replay.proofs.Running.FitLemmas.{fitted-yes, fitted-no}
use Rattle.mtrace_replay.proofs.runs.fitted.Fitted.with.Goals as goal

pub returns-then-serves-clause-fitted : goal.returns-then-serves-clause-fitted
returns-then-serves-clause-fitted c = λ verdicts is.
    rw (c.if-serves.true, c.or.ensures, c.or-then-serves.ensures)
    (ap (λ (so_far : Fitted). let new : Fitted = record { least = option_or so_far.least (Some c.args.size); safe = option_or so_far.safe (Some c.args.size); tried = so_far.tried + 1; refused = so_far.refused } in new) is
    ∙ sym (fitted-yes verdicts c.args.size))

pub returns-else-serves-clause-fitted : goal.returns-else-serves-clause-fitted
returns-else-serves-clause-fitted c = λ verdicts is.
    rw c.if-serves.false
    (ap (λ (so_far : Fitted). let new : Fitted = record { least = so_far.least; safe = None; tried = so_far.tried + 1; refused = so_far.refused + 1 } in new) is
    ∙ sym (fitted-no verdicts c.args.size))
