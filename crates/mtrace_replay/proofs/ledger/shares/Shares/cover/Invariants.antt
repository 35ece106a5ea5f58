-- What the slots keep, and what each keeps.
use Rattle.std.proofs.Common.{suc, ◌-◌, length}
use Rattle.mtrace_replay.specs.Shares.{ByLocation, KeepsShares, AreKept}
use Rattle.mtrace_replay.proofs.ledger.shares.Shares.cover.Given as goal

pub record Covers (old new : ByLocation) : Type 0 where
  pub kept : KeepsShares old new
  pub all : AreKept new.all new.mark new.total

abbrev pub invariant-loop-self : goal.invariant-loop-self
invariant-loop-self l =
    Covers (record { all = l.initial.self-inside.all.items; mark = l.initial.self-inside.mark; total = l.initial.self-inside.total })
    (record { all = l.self-inside.all.items; mark = l.self-inside.mark; total = l.self-inside.total })

abbrev pub decreases-loop-self : goal.decreases-loop-self
decreases-loop-self l = suc l.slot - length l.self-inside.all.items
