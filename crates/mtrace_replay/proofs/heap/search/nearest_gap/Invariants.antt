-- All keys up to the distance on both sides are held.
use Rattle.mtrace_replay.proofs.Index.SearchLemmas.{HeldAround}
use Rattle.mtrace_replay.proofs.heap.search.nearest_gap.Given as goal

abbrev pub invariant-loop-distance : goal.invariant-loop-distance
invariant-loop-distance l = HeldAround l.keys.keys l.keys.rows.room l.at l.distance
