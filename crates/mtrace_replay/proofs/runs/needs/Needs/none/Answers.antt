-- No line asks for nothing.
use Rattle.mtrace_replay.proofs.Running.NeedsLemmas.{needs_none}
use Rattle.mtrace_replay.proofs.runs.needs.Needs.none.Goals as goal

pub returns : goal.returns
returns c settings = needs_none settings
