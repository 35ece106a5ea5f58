-- Each lane by itself.
use Rattle.mtrace_log.proofs.SixteenLemmas.{chosen}
use Rattle.mtrace_log.proofs.sixteen.offsets.Goals as goal

pub returns : goal.returns
returns c = chosen c.args.lanes 16 c.args.bound c.fits-lanes.0
