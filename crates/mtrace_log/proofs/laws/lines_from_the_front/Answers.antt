-- By induction over the pieces.
use Rattle.mtrace_log.proofs.LineLemmas.{lines_of-last, lines_of-whole_lines}
use Rattle.mtrace_log.proofs.laws.lines_from_the_front.Goals as goal

pub returns-clause-whole : goal.returns-clause-whole
returns-clause-whole c = lines_of-whole_lines

pub returns-clause-last : goal.returns-clause-last
returns-clause-last c = lines_of-last
