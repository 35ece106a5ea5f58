-- Two lists in the order of sites with equal rows are equal.
use Rattle.mtrace_replay.proofs.Told.SiteLemmas.OneList.{one_list}
use Rattle.mtrace_replay.proofs.laws.one_list_of_sites.Goals as goal

pub returns : goal.returns
returns c = one_list
