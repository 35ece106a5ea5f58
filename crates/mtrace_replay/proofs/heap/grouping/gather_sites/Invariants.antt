use Rattle.std.proofs.Common.{◌≡◌, ◌≤◌, ◌+◌, vec_len, vec_capacity, length, map, drop, reverse}
use Rattle.mtrace_replay.specs.Gather.{gather}
use Rattle.mtrace_replay.proofs.heap.grouping.gather_sites.Given as goal

-- the sites of the entries that are gone through
abbrev pub invariant-loop-left : goal.invariant-loop-left
invariant-loop-left l = record {
  within : l.left ≤ length l.entries;
  gathered : reverse l.sites.items ≡ gather (map (λ e. e.now) (drop l.left l.entries));
  few : vec_len l.sites + l.left ≤ length l.entries;
  room : length l.entries ≤ vec_capacity l.sites;
  capacity : vec_capacity l.initial.sites ≤ vec_capacity l.sites;
}

abbrev pub decreases-loop-left : goal.decreases-loop-left
decreases-loop-left l = l.left
