-- A spelling has no newline, and is short.
use Rattle.mtrace_log.proofs.SpellingLemmas.{Lacks-spell, length-spell}
use Rattle.mtrace_log.proofs.laws.spelling_is_a_line.Goals as goal

pub returns-clause-no_newline : goal.returns-clause-no_newline
returns-clause-no_newline c = Lacks-spell

pub returns-clause-short : goal.returns-clause-short
returns-clause-short c = length-spell
