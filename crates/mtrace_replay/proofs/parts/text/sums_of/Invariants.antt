use Rattle.std.proofs.Common.{◌≡◌, ◌≤◌, ◌+◌, ◌*◌, ◌^◌, Some, length, map, drop}
use Rattle.mtrace_replay.specs.Parts.{sum_over, pool_bytes, records_bytes}
use Rattle.mtrace_replay.specs.PartsText.{part_in}
use Rattle.mtrace_replay.proofs.parts.text.sums_of.Given as goal

-- the sums of those behind
abbrev pub invariant-loop-left : goal.invariant-loop-left
invariant-loop-left l = record {
  pools_are : sum_over pool_bytes (map part_in (drop l.left l.parts)) ≡ Some l.sums.pools;
  tables_are : sum_over records_bytes (map part_in (drop l.left l.parts)) ≡ Some l.sums.tables;
  few : l.sums.pools + l.left * 2 ^ 32 ≤ length l.parts * 2 ^ 32;
  few_tables : l.sums.tables + l.left * 2 ^ 32 ≤ length l.parts * 2 ^ 32;
  within : l.left ≤ length l.parts;
}

abbrev pub decreases-loop-left : goal.decreases-loop-left
decreases-loop-left l = l.left
