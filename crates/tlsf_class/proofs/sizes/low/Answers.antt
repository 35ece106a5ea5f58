-- The lowest size by level and step.
use Rattle.std.proofs.Common.{◌<◌, ◌/◌, ◌∙◌, sym, ap, arith}
use Rattle.tlsf_class.specs.Classes.{steps, low}
use Rattle.tlsf_class.proofs.Shifts.{low-first_level, low-later_level}
use Rattle.tlsf_class.proofs.sizes.low.Goals as goal

pub returns-then-level-eq0 : goal.returns-then-level-eq0
returns-then-level-eq0 c =
    let e = c.number-number.ensures in
    sym (ap low (sym e.value) ∙ low-first_level c.number-number.result c.if-level-eq0.true)

pub returns-else-level-eq0 : goal.returns-else-level-eq0
returns-else-level-eq0 c =
    let e = c.number-number.ensures in
    let later : 0 < c.number-number.result / steps = omega arith in
    sym (ap low (sym e.value) ∙ low-later_level c.number-number.result e.below later)
