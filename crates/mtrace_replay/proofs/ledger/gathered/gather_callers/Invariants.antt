-- The callers so far are those of the locations that are passed.
use Rattle.std.proofs.Common.{◌≡◌, ◌≤◌, suc, length, map, drop, reverse, Some}
use Rattle.mtrace_replay.specs.Calls.{has_no_call, caller_of}
use Rattle.mtrace_replay.specs.Shares.{count_at, rows_by}
use Rattle.mtrace_replay.proofs.OnLedger.RowsBySlot.{Gathers}
use Rattle.mtrace_replay.proofs.ledger.gathered.gather_callers.Given as goal

abbrev pub invariant-loop-left : goal.invariant-loop-left
invariant-loop-left l =
    Gathers (l.left ≤ length l.locations) (reverse l.callers.items ≡ rows_by has_no_call caller_of (count_at l.shares) (map Some (drop l.left l.locations)) (suc l.left))

abbrev pub decreases-loop-left : goal.decreases-loop-left
decreases-loop-left l = l.left
