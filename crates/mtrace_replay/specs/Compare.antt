-- How two addresses stand to each other.
use Rattle.std.specs.Prelude.{◌≡◌, ℕ, ◌+◌, ◌<◌, ◌≤◌, ◌==◌}
use Rattle.mtrace_replay.specs.declared.heap.key.LedgerReplayed.{LedgerReplayed}

-- One comparison of two addresses, which was counted: 1 where the own one is at most the other, else 0.
pub record StandsTo (own other : ℕ) (standing : LedgerReplayed) (counted_old counted_new : ℕ) : Type 0 where
  pub one_or_none : standing.reaches ≤ 1
  pub reaches : standing.reaches ≡ 1 → own ≤ other
  pub above : standing.reaches ≡ 0 → other < own
  pub same : standing.is_same ≡ (own == other)
  pub counted : counted_new ≡ counted_old + 1
