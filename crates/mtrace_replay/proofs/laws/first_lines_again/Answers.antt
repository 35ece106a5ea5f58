-- A text reads as one list of lines.
use Rattle.mtrace_replay.proofs.Running.ToldLemmas.{told_first}
use Rattle.mtrace_replay.proofs.laws.first_lines_again.Goals as goal

pub returns : goal.returns
returns c = told_first
