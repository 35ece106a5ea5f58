use Rattle.std.proofs.Common.{◌≡◌, ◌+◌, ◌<◌, ◌≤◌, vec_len, vec_capacity}
use Rattle.mtrace_replay.specs.Timeline.{end_of_stretch}
use Rattle.mtrace_replay.proofs.Told.ToldLines.{AreToldUpTo}
use Rattle.mtrace_replay.proofs.held.told.tell_lines.Given as goal

-- what is told up to the end of the stretches so far: one number for each, and 0, and the peak's where it was told
abbrev pub invariant-loop-stretch : goal.invariant-loop-stretch
invariant-loop-stretch l = record {
  told : AreToldUpTo l.lines l.peak l.stretches l.last l.numbers.items;
  last_is : l.last ≡ end_of_stretch l.lines l.stretches l.stretch;
  early : l.last < l.peak → vec_len l.numbers ≤ l.stretch + 1;
  few : vec_len l.numbers ≤ l.stretch + 2;
  room : l.stretches + 2 ≤ vec_capacity l.numbers;
}
