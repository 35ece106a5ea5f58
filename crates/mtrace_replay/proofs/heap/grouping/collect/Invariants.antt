use Rattle.std.proofs.Common.{◌≡◌, ◌≤◌, ◌+◌, ◌++◌, vec_len, vec_capacity, length, map}
use Rattle.mtrace_replay.proofs.heap.grouping.collect.Given as goal

-- the entries so far, and those to come
abbrev pub invariant-loop-entry : goal.invariant-loop-entry
invariant-loop-entry l = record {
  all : map (λ e. e.now) l.entries.items ++ l.entry-iterator ≡ l.fn.held;
  room : vec_len l.entries + length l.entry-iterator ≤ vec_capacity l.entries;
  capacity : vec_capacity l.initial.entries ≤ vec_capacity l.entries;
}
