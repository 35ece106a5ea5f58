-- The caller of one location more.
use Rattle.std.proofs.Common.{◌-◌, reverse, ap, ◌∙◌, arith}
use Rattle.std.specs.Option.{option_copied}
use Rattle.mtrace_replay.specs.declared.held.count.Count.{Count}
use Rattle.mtrace_replay.specs.Calls.{has_no_call, caller_of}
use Rattle.mtrace_replay.specs.Shares.{count_at, with_row}
use Rattle.mtrace_replay.proofs.OnLedger.RowsBySlot.{one_before}
use Rattle.mtrace_replay.proofs.ledger.gathered.gather_callers.Goals as goal

pub loop-left-preserved : goal.loop-left-preserved
loop-left-preserved c =
    let all = c.args.locations.now in
    let f = count_at c.args.shares.now in
    let left = c.loop-left.left in
    record {
      within = omega (arith, c.loop-left.invariant.within);
      gathered = c.in_ok-push_caller.ensures
          ∙ ap (λ (count : Count). with_row has_no_call caller_of (option_copied c.get-at.result) count (reverse c.loop-left.callers.items)) c.count.ensures
          ∙ ap (with_row has_no_call caller_of (option_copied c.get-at.result) (f left)) c.loop-left.invariant.gathered
          ∙ one_before has_no_call caller_of f all (left - 1) left (option_copied c.get-at.result) (omega (arith, c.loop-left.invariant.within, c.loop-left-test.true)) (omega (arith, c.loop-left-test.true)) c.get-at.ensures;
    }
