-- The address is between the bounds; their distance falls.
use Rattle.mtrace_replay.proofs.Index.SearchLemmas.{Searching}
use Rattle.mtrace_replay.proofs.heap.search.search.Given as goal

abbrev pub invariant-loop-left : goal.invariant-loop-left
invariant-loop-left l = Searching l.keys.keys l.address l.low l.left l.is_seen l.initial.comparisons.count l.comparisons.count

abbrev pub decreases-loop-left : goal.decreases-loop-left
decreases-loop-left l = l.left
