-- Each turn adds a chunk and keeps the keys.
use Rattle.std.proofs.Common.{◌≡◌, ◌-◌, length}
use Rattle.mtrace_replay.specs.Keys.{KeepsRows}
use Rattle.mtrace_replay.proofs.heap.keys.Keys.cover.Given as goal

abbrev pub invariant-loop-self : goal.invariant-loop-self
invariant-loop-self l = record { keys : l.self.keys ≡ l.initial.self.keys; rows : KeepsRows l.initial.self.rows l.self.rows }

abbrev pub decreases-loop-self : goal.decreases-loop-self
decreases-loop-self l = l.count - length l.self.rows.entries
