-- Two lists in order that agree at each address are equal.
use Rattle.mtrace_replay.proofs.History.SortedLemmas.{one_list}
use Rattle.mtrace_replay.proofs.laws.one_list_is_held.Goals as goal

pub returns : goal.returns
returns c = λ past one other. one_list past one other
