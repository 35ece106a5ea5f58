-- The keys behind the end stand spread, those before it are untouched.
use Rattle.std.proofs.Common.{◌≡◌}
use Rattle.mtrace_replay.proofs.Index.ArrangeLemmas.{Spreads}
use Rattle.mtrace_replay.proofs.heap.arrange.space_out.Given as goal

abbrev pub invariant-loop-end : goal.invariant-loop-end
invariant-loop-end l = record {
  spreads : Spreads l.initial.keys.keys l.keys.keys l.held l.left l.end;
  rows : l.keys.rows ≡ l.initial.keys.rows;
}

abbrev pub decreases-loop-end : goal.decreases-loop-end
decreases-loop-end l = l.end
