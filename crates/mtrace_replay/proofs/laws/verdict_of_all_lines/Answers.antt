-- A text reads as one list of lines.
use Rattle.mtrace_replay.proofs.Enough.VerdictLemmas.{told_verdict}
use Rattle.mtrace_replay.proofs.laws.verdict_of_all_lines.Goals as goal

pub returns : goal.returns
returns c = λ front settings text middle left lines serves all tried. told_verdict front settings text middle left lines all serves tried
