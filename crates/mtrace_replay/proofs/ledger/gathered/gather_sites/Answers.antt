-- The site of one location more.
use Rattle.std.proofs.Common.{◌-◌, reverse, ap, ◌∙◌, arith}
use Rattle.std.specs.Option.{option_copied}
use Rattle.mtrace_replay.specs.declared.held.amount.Amount.{Amount}
use Rattle.mtrace_replay.specs.Shares.{amount_at, has_no_block, site_at, with_site}
use Rattle.mtrace_replay.proofs.OnLedger.RowsBySlot.{one_before}
use Rattle.mtrace_replay.proofs.ledger.gathered.gather_sites.Goals as goal

pub loop-left-preserved : goal.loop-left-preserved
loop-left-preserved c =
    let all = c.args.locations.now in
    let f = amount_at c.args.when c.args.shares.now in
    let left = c.loop-left.left in
    record {
      within = omega (arith, c.loop-left.invariant.within);
      gathered = c.in_ok-push_site.ensures
          ∙ ap (λ (amount : Amount). with_site (option_copied c.get-at.result) amount (reverse c.loop-left.sites.items)) c.amount.ensures
          ∙ ap (with_site (option_copied c.get-at.result) (f left)) c.loop-left.invariant.gathered
          ∙ one_before has_no_block site_at f all (left - 1) left (option_copied c.get-at.result) (omega (arith, c.loop-left.invariant.within, c.loop-left-test.true)) (omega (arith, c.loop-left-test.true)) c.get-at.ensures;
    }
