-- An event has one spelling.
use Rattle.mtrace_log.proofs.SpellingLemmas.{ReadsAs-same}
use Rattle.mtrace_log.proofs.laws.one_answer.Goals as goal

pub returns : goal.returns
returns c = ReadsAs-same
