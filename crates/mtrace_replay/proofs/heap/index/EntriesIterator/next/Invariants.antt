use Rattle.std.proofs.Common.{◌≡◌, ◌-◌, map, drop, length}
use Rattle.mtrace_replay.specs.Holding.{Holding}
use Rattle.mtrace_replay.specs.Key.{all_held, HaveRows}
use Rattle.mtrace_replay.proofs.heap.index.EntriesIterator.next.Given as goal

-- only vacant keys were passed over
abbrev pub invariant-loop-self : goal.invariant-loop-self
invariant-loop-self l = record {
  left : map (λ (holding : Holding). holding.entry) (all_held l.keys.rows (drop l.self-inside.at l.keys.keys)) ≡ l.fn.self;
  rows : HaveRows l.keys.rows l.keys.keys;
  same : l.self-inside.keys.now ≡ l.keys;
}

abbrev pub decreases-loop-self : goal.decreases-loop-self
decreases-loop-self l = length l.keys.keys - l.self-inside.at
