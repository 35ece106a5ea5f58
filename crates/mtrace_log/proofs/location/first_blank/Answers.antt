-- The lowest lane of the mask is the first.
use Rattle.mtrace_log.proofs.LocationLemmas.{lanes-none, lanes-some}
use Rattle.mtrace_log.proofs.location.first_blank.Goals as goal

pub returns-then-mask-eq0 : goal.returns-then-mask-eq0
returns-then-mask-eq0 c = lanes-none c.args.lanes c.fits-lanes.0 c.if-mask-eq0.true

pub returns : goal.returns
returns c = lanes-some c.args.lanes c.fits-lanes.0 c.if-mask-eq0.false
