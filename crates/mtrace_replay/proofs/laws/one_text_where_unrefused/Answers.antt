-- Equal entries, sums and diagnostics make equal texts.
use Rattle.mtrace_replay.proofs.Enough.UnrefusedTexts.{same_leaks, same_sites}
use Rattle.mtrace_replay.proofs.laws.one_text_where_unrefused.Goals as goal

pub returns-clause-leaks : goal.returns-clause-leaks
returns-clause-leaks c = λ settings lines all totals text none is told. same_leaks settings lines none all totals text is told

pub returns-clause-sites : goal.returns-clause-sites
returns-clause-sites c = same_sites
