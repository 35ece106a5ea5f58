-- What has changed of one location more.
use Rattle.std.proofs.Common.{◌-◌, reverse, ap, ◌∙◌, arith}
use Rattle.std.specs.Option.{option_copied}
use Rattle.mtrace_replay.specs.declared.held.amount.Amount.{Amount}
use Rattle.mtrace_replay.specs.Shares.{between, is_unchanged, site_now, with_row}
use Rattle.mtrace_replay.proofs.OnLedger.RowsBySlot.{one_before}
use Rattle.mtrace_replay.proofs.ledger.gathered.gather_changes.Goals as goal

pub loop-left-preserved : goal.loop-left-preserved
loop-left-preserved c =
    let all = c.args.locations.now in
    let f = between c.args.shares.now in
    let left = c.loop-left.left in
    let at = option_copied c.get-at.result in
    let before = c.loop-left.sites.items in
    record {
      within = omega (arith, c.loop-left.invariant.within);
      gathered = c.in_ok-push_change.ensures
          ∙ ap (λ (amount : Amount). with_row is_unchanged site_now at (record { before = amount; now = c.amount-now.result }) (reverse before)) c.amount-before.ensures
          ∙ ap (λ (amount : Amount). with_row is_unchanged site_now at (record { before = (f left).before; now = amount }) (reverse before)) c.amount-now.ensures
          ∙ ap (with_row is_unchanged site_now at (f left)) c.loop-left.invariant.gathered
          ∙ one_before is_unchanged site_now f all (left - 1) left at (omega (arith, c.loop-left.invariant.within, c.loop-left-test.true)) (omega (arith, c.loop-left-test.true)) c.get-at.ensures;
    }
