-- By induction over the lines.
use Rattle.mtrace_replay.proofs.History.HeldLemmas.{held_until_taken}
use Rattle.mtrace_replay.proofs.laws.held_until_taken.Goals as goal

pub returns : goal.returns
returns c = λ start past address given. held_until_taken start past address given
