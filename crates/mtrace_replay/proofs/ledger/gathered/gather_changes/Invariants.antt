-- The changes so far are those of the locations that are passed.
use Rattle.std.proofs.Common.{◌≡◌, ◌≤◌, suc, length, map, drop, reverse, Some}
use Rattle.mtrace_replay.specs.Shares.{between, is_unchanged, rows_by, site_now}
use Rattle.mtrace_replay.proofs.OnLedger.RowsBySlot.{Gathers}
use Rattle.mtrace_replay.proofs.ledger.gathered.gather_changes.Given as goal

abbrev pub invariant-loop-left : goal.invariant-loop-left
invariant-loop-left l = Gathers (l.left ≤ length l.locations) (reverse l.sites.items ≡ rows_by is_unchanged site_now (between l.shares) (map Some (drop l.left l.locations)) (suc l.left))

abbrev pub decreases-loop-left : goal.decreases-loop-left
decreases-loop-left l = l.left
