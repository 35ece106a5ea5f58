-- What is held at the mark is what is held now.
use Rattle.std.proofs.Common.{◌≡◌, length, sym, ap, ◌∙◌, subst}
use Rattle.std.specs.Map.{values_of}
use Rattle.mtrace_replay.specs.Ledger.{LedgerState}
use Rattle.mtrace_replay.specs.Sites.{AreTallied}
use Rattle.mtrace_replay.specs.Shares.{marked_at, now_at, origins, has_no_block, site_at, sites_of}
use Rattle.mtrace_replay.proofs.OnLedger.LedgerPeak.{ledger_state, callers_stay}
use Rattle.mtrace_replay.proofs.OnLedger.CallersBySlot.{called_of}
use Rattle.mtrace_replay.proofs.OnLedger.SharesLemmas.{shared-marked, called-kept}
use Rattle.mtrace_replay.proofs.OnLedger.RowsBySlot.{rows_by-same}
use Rattle.mtrace_replay.proofs.OnLedger.SitesBySlot.{tallied}
use Rattle.mtrace_replay.proofs.ledger.ledger.Ledger.set_mark.Goals as goal

pub invariant_of-self : goal.invariant_of-self
invariant_of-self c =
    let all = values_of c.self.inside.held.entries in (
      c.self.invariant.0,
      shared-marked c.self.inside.locations c.args.line all c.self.inside.shares c.set_mark.new.self (λ k d within. (c.self.invariant.0.kept k d within).location) c.self.invariant.1 c.set_mark.ensures,
      called-kept c.self.inside.locations (length c.self.inside.held.entries) c.self.inside.shares c.set_mark.new.self c.self.invariant.2 c.set_mark.ensures.now c.set_mark.ensures.counts,
    )

pub returns-clause-at_peak : goal.returns-clause-at_peak
returns-clause-at_peak c =
    let held = c.self.inside.held.entries in
    let now = tallied c.self.inside.locations c.self.inside.shares held c.keep_apart.ensures (λ k d within. (c.self.invariant.0.kept k d within).location) c.self.invariant.1 in
    let same = rows_by-same has_no_block site_at (marked_at c.set_mark.new.self) (now_at c.self.inside.shares) c.set_mark.ensures.marked (origins c.self.inside.locations) 0 in
    subst (λ (state : LedgerState). AreTallied state.all (sites_of (marked_at c.set_mark.new.self) c.self.inside.locations)) c.self.view_is (subst (AreTallied (ledger_state c.self.inside.locations c.self.inside.shares held).all) (sym same) now)

pub returns-clause-called : goal.returns-clause-called
returns-clause-called c =
    let callers = callers_stay c.self.inside.locations c.self.inside.locations (λ number bytes is. is) c.self.inside.shares c.set_mark.new.self c.self.invariant.2.beyond c.set_mark.ensures.counts.now in
    let total = c.set_mark.ensures.counts.total in
    let same : called_of c.self.inside.locations c.set_mark.new.self ≡ called_of c.self.inside.locations c.self.inside.shares = (λ i. record { callers = callers i; total = total i }) in
    same ∙ ap (λ (state : LedgerState). state.called) c.self.view_is
