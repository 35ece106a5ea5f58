-- The sites by slot that have changed, sorted, are those of the entries.
use Rattle.std.proofs.Common.{List, reverse, sym, subst, ◌∙◌}
use Rattle.std.specs.Map.{values_of}
use Rattle.std.specs.List.Sorted.{IsPermutation}
use Rattle.std.proofs.lemmas.List.Sorted.{IsPermutation-reverse, IsPermutation-sym, IsPermutation-trans}
use Rattle.mtrace_replay.specs.Sites.{Site, AreTallied}
use Rattle.mtrace_replay.specs.Changes.{AreChanges}
use Rattle.mtrace_replay.specs.Shares.{between}
use Rattle.mtrace_replay.specs.Ledger.{LedgerState}
use Rattle.mtrace_replay.proofs.OnLedger.LedgerPeak.{ledger_state}
use Rattle.mtrace_replay.proofs.OnLedger.SitesBySlot.{no_bytes, tallied}
use Rattle.mtrace_replay.proofs.OnLedger.ChangesBySlot.{are_changes}
use Rattle.mtrace_replay.proofs.ledger.ledger.Ledger.changes.Goals as goal

pub returns : goal.returns
returns c = λ before are.
    let locations = c.self.inside.locations in
    let shares = c.self.inside.shares in
    let held = c.self.inside.held.entries in
    let shared = c.self.invariant.1 in
    let now = tallied locations shares held c.keep_apart.ensures (λ k d within. (c.self.invariant.0.kept k d within).location) shared in
    let sites = c.in_ok-sites.sites.items in
    let sorted = c.sort_sites.new.sites.items in
    let back = IsPermutation-sym sites (reverse sites) (IsPermutation-reverse sites) in
    let arranged = subst (λ (ss : List Site). IsPermutation ss sorted) c.in_ok-sites.ensures (IsPermutation-trans (reverse sites) sites sorted back c.sort_sites.ensures.moved) in
    let state : LedgerState = ledger_state locations shares held in
    let marked = subst (λ (state : LedgerState). AreTallied before state.at_peak) (sym c.self.view_is) are in
    subst (λ (state : LedgerState). AreChanges before state.all sorted) c.self.view_is
    (are_changes locations c.keep_apart.ensures (between shares) before state.all marked now
    (λ slot none. shared.bytes slot ∙ no_bytes slot (values_of held) (sym (shared.blocks slot) ∙ none)) sorted arranged c.sort_sites.ensures.sorted)
