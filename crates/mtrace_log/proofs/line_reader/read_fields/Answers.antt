-- The pointer, then the numbers.
use Rattle.std.proofs.Common.{◌∙◌}
use Rattle.mtrace_log.proofs.FrontLemmas.{pointer-same, behind_pointer, fields-front, fields-behind}
use Rattle.mtrace_log.proofs.line_reader.read_fields.Goals as goal

pub returns-in_default : goal.returns-in_default
returns-in_default c = λ fields fits same.
    c.in_default.ensures fields.0 (behind_pointer fields.1) (fields-front c.args.bytes.now fields.0 fields.1 fits.0 same)

pub returns-in_err-numbers : goal.returns-in_err-numbers
returns-in_err-numbers c = rw c.from_residual.ensures (λ fields fits same.
    let front = fields-front c.args.bytes.now fields.0 fields.1 fits.0 same in
    let parts = pointer-same c.args.bytes.now fields.0 c.in-Some.pointer (behind_pointer fields.1) c.in-Some.rest.now front c.in-Some.ensures in
    let (numbers, fit, is) = fields-behind fields.1 c.in-Some-behind_space.behind.now fits.1 (parts.1 ∙ c.in-Some-behind_space.ensures) in
    c.in_err-numbers.ensures numbers fit is)
