-- By cases on two events with one spelling.
use Rattle.mtrace_log.proofs.FormLemmas.{spell-same}
use Rattle.mtrace_log.proofs.laws.one_spelling.Goals as goal

pub returns : goal.returns
returns c = spell-same
