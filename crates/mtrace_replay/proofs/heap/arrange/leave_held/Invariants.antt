-- The keys read so far are the held ones, in front.
use Rattle.std.proofs.Common.{◌≡◌}
use Rattle.mtrace_replay.proofs.Index.ArrangeLemmas.{HeldStandFirst}
use Rattle.mtrace_replay.proofs.heap.arrange.leave_held.Given as goal

abbrev pub invariant-loop-at : goal.invariant-loop-at
invariant-loop-at l = record {
  leaves : HeldStandFirst l.initial.keys.keys l.keys.keys l.at l.held;
  rows : l.keys.rows ≡ l.initial.keys.rows;
}
