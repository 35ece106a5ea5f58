-- The order of sites is total, so the sort's result is sorted by it.
use Rattle.std.proofs.Common.{rules}
use Rattle.mtrace_replay.specs.Sites.{Site}
use Rattle.mtrace_replay.proofs.Told.SiteLemmas.Exact.{site_total}
use Rattle.mtrace_replay.proofs.Told.SiteLemmas.Sorting.{sorted-from_sort_by}
use Rattle.mtrace_replay.proofs.held.site.sort_sites.Goals as goal

pub returns : goal.returns
returns c = record {
  moved = search rules;
  sorted = sorted-from_sort_by site_total (λ (s : Site). s) _ c.sort_unstable_by.ensures.sorted (λ a r f k. search rules);
  capacity = search rules;
}
