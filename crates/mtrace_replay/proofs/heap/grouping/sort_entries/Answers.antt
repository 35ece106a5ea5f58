-- The order of locations is total, so the sort's result is sorted by it.
use Rattle.std.proofs.Common.{rules}
use Rattle.mtrace_replay.specs.Gather.{lent_origin}
use Rattle.mtrace_replay.proofs.Told.SiteLemmas.Origins.{origin_total}
use Rattle.mtrace_replay.proofs.Told.SiteLemmas.Sorting.{sorted-from_sort_by}
use Rattle.mtrace_replay.proofs.heap.grouping.sort_entries.Goals as goal

pub returns : goal.returns
returns c = record {
  moved = search rules;
  sorted = sorted-from_sort_by origin_total lent_origin _ c.sort_unstable_by.ensures.sorted (λ a r f k. search rules);
  capacity = search rules;
}
