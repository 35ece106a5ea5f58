-- The sort's order is that of callers.
use Rattle.std.proofs.Common.{rules}
use Rattle.mtrace_replay.specs.Calls.{Caller}
use Rattle.mtrace_replay.proofs.Told.SiteLemmas.CallerOrder.{caller_total}
use Rattle.mtrace_replay.proofs.Told.SiteLemmas.Sorting.{sorted-from_sort_by}
use Rattle.mtrace_replay.proofs.held.caller.sort_callers.Goals as goal

pub returns : goal.returns
returns c = record {
  moved = search rules;
  sorted = sorted-from_sort_by caller_total (λ (x : Caller). x) _ c.sort_unstable_by.ensures.sorted (λ a r f k. search rules);
  capacity = search rules;
}
