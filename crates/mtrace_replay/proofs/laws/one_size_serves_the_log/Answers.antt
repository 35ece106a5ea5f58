-- By the heap's law on blocks of one size, act by act.
use Rattle.std.proofs.Common.{reverse}
use Rattle.mtrace_replay.proofs.Enough.OneSizeLog.{one_size_serves, rounded_serves}
use Rattle.mtrace_replay.proofs.laws.one_size_serves_the_log.Goals as goal

pub returns : goal.returns
returns c = record {
  asked = λ blocks size pool records lines sized asks holds good large many. one_size_serves blocks size pool records (reverse lines) sized asks holds good large many;
  rounded = λ blocks size pool records lines sized holds good large many. rounded_serves blocks size pool records lines sized holds good large many;
}
