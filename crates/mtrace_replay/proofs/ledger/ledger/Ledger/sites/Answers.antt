-- The sites by slot, sorted, are those of the entries.
use Rattle.std.proofs.Common.{◌≡◌, ℕ, List, reverse, refl, sym, subst}
use Rattle.std.specs.List.Sorted.{IsPermutation}
use Rattle.std.proofs.lemmas.List.Sorted.{IsPermutation-reverse, IsPermutation-sym, IsPermutation-trans}
use Rattle.mtrace_replay.specs.Entry.{Entry}
use Rattle.mtrace_replay.specs.Sites.{Site, AreTallied}
use Rattle.mtrace_replay.specs.declared.ledger.shares.When.{When}
use Rattle.mtrace_replay.specs.declared.ledger.shares.When.TheVariants.{Peak, End}
use Rattle.mtrace_replay.specs.Shares.{ByLocation, amount_at, origins, sites_of}
use Rattle.mtrace_replay.specs.Ledger.{LedgerState, AreEntries}
use Rattle.mtrace_replay.proofs.OnLedger.LedgerPeak.{ledger_state}
use Rattle.mtrace_replay.proofs.Told.SiteLemmas.Exact.{are_sites}
use Rattle.mtrace_replay.proofs.OnLedger.SitesBySlot.{sites_by-some, tallied}
use Rattle.mtrace_replay.proofs.ledger.ledger.Ledger.sites.Goals as goal

-- the sites by slot count and sum the entries that are meant
by_moment : (when : When) (entries : List Entry) (state : LedgerState) (shares : ByLocation) (locations : List (List ℕ)) → state.at_peak ≡ sites_of (amount_at Peak shares) locations
    → AreTallied state.all (sites_of (amount_at End shares) locations) → AreEntries when entries state → AreTallied entries (sites_of (amount_at when shares) locations)
by_moment Peak entries state shares locations peak all are = subst (AreTallied entries) peak are
by_moment End entries state shares locations peak all are = subst (λ (es : List Entry). AreTallied es (sites_of (amount_at End shares) locations)) (sym are) all

pub returns : goal.returns
returns c = λ entries are.
    let locations = c.self.inside.locations in
    let shares = c.self.inside.shares in
    let held = c.self.inside.held.entries in
    let now = tallied locations shares held c.keep_apart.ensures (λ k d within. (c.self.invariant.0.kept k d within).location) c.self.invariant.1 in
    let by_slot = sites_of (amount_at c.args.when shares) locations in
    let sites = c.in_ok-sites.sites.items in
    let sorted = c.sort_sites.new.sites.items in
    let back = IsPermutation-sym sites (reverse sites) (IsPermutation-reverse sites) in
    let arranged = subst (λ (ss : List Site). IsPermutation ss sorted) c.in_ok-sites.ensures (IsPermutation-trans (reverse sites) sites sorted back c.sort_sites.ensures.moved) in
    let state : LedgerState = ledger_state locations shares held in
    are_sites entries by_slot sorted
    (by_moment c.args.when entries state shares locations refl now (subst (AreEntries c.args.when entries) (sym c.self.view_is) are))
    (sites_by-some (amount_at c.args.when shares) (origins locations) 0) arranged c.sort_sites.ensures.sorted
