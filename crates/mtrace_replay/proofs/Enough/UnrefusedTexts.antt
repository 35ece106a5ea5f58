-- A log of which a heap refuses no line has one text, with that heap and without.
use Rattle.std.proofs.Common.{◌≡◌, ℕ, suc, ◌-◌, List, [], ◌∷◌, ◌++◌, length, map, take, drop, reverse, refl, sym, ap, ap₂, ◌∙◌, subst, Some}
use Rattle.std.proofs.lemmas.List.{reverse-append, take-append-drop, append-nil, length-map, length-drop, length-reverse}
use Rattle.mtrace_log.specs.HasRead.{HasReadAll}
use Rattle.mtrace_log.specs.Shown.{Bytes}
use Rattle.mtrace_replay.specs.declared.held.diagnostic.Diagnostic.{Diagnostic}
use Rattle.mtrace_replay.specs.declared.heap.settings.Settings.{Settings}
use Rattle.mtrace_replay.specs.declared.heap.totals.Totals.{Totals}
use Rattle.mtrace_replay.specs.declared.ledger.replay.LedgerTotals.{LedgerTotals}
use Rattle.mtrace_replay.specs.declared.runs.report.Report.TheVariants.{Leaks}
use Rattle.mtrace_replay.specs.Started.{Bare, started}
use Rattle.mtrace_replay.specs.Entry.{Entry}
use Rattle.mtrace_replay.specs.Moment.{ReadLine, Given, Moment, half}
use Rattle.mtrace_replay.specs.History.{history, moments, notes, pending, diagnostics, AreHeld, entries_of}
use Rattle.mtrace_replay.specs.Totals.{first_moments, AreTotals}
use Rattle.mtrace_replay.specs.Sites.{Site, AreSites}
use Rattle.mtrace_replay.specs.Texts.{diagnostics_text, leaks_report, both_sections, refused_line, total_size}
use Rattle.mtrace_replay.specs.Run.{whole_text}
use Rattle.mtrace_replay.specs.RunFit.{refusals}
use Rattle.mtrace_replay.specs.RunSites.{HeldSites, sections_of, TellsSites}
use Rattle.mtrace_replay.specs.LedgerReplay.{ledger_history, ledger_diagnostics, without_places}
use Rattle.mtrace_replay.specs.RunLedger.{AreLedgerTotals, TellsHeld, TellsLedgerSites, whole_ledger}
use Rattle.mtrace_replay.proofs.History.Moments.{moments-line}
use Rattle.mtrace_replay.proofs.History.HeldLemmas.{length-moments}
use Rattle.mtrace_replay.proofs.History.SortedLemmas.{one_list}
use Rattle.mtrace_replay.proofs.Told.SiteLemmas.OneList.{one_list as one_list_of_sites}
use Rattle.mtrace_replay.proofs.Running.ToldLemmas.{told_first}
use Rattle.mtrace_replay.proofs.Enough.UnrefusedLemmas.{plain, ledger_alike, notes_plain, first_plain, unplaced_all, held_unplaced, entries_unplaced_all, sums_alike}

module _ (settings : Settings) (lines : List ReadLine) (none : refusals settings lines ≡ 0) where
  -- the same is wrong with the lines
  pub same_diagnostics : ledger_diagnostics lines ≡ diagnostics settings lines
  same_diagnostics =
      ap (λ (past : List Moment). notes past ++ half (length lines) (pending (reverse lines))) (ledger_alike (started settings) (reverse lines) none)
      ∙ ap (λ (told : List Diagnostic). told ++ half (length lines) (pending (reverse lines))) (notes_plain (history settings lines))

  -- the same is held at the end
  pub same_held : (all other : List Given) → AreHeld all (history settings lines) → AreHeld other (ledger_history lines) → entries_of other ≡ entries_of all
  same_held all other is as_well =
      let served = subst (λ (past : List Moment). AreHeld other past) (ledger_alike (started settings) (reverse lines) none) as_well in
      ap entries_of (one_list (map plain (history settings lines)) other (unplaced_all all) served (held_unplaced all (history settings lines) is)) ∙ entries_unplaced_all all

  -- the same is held after the first lines
  pub same_first : (many : ℕ) (all other : List Given) → AreHeld all (first_moments many (history settings lines)) → AreHeld other (first_moments many (ledger_history lines))
      → entries_of other ≡ entries_of all
  same_first many all other is as_well =
      let past = history settings lines in
      let alike = ap (first_moments many) (ledger_alike (started settings) (reverse lines) none) ∙ first_plain many past in
      let served = subst (λ (past : List Moment). AreHeld other past) alike as_well in
      ap entries_of (one_list (map plain (first_moments many past)) other (unplaced_all all) served (held_unplaced all (first_moments many past) is)) ∙ entries_unplaced_all all

  -- the sums are the same
  pub same_sums : (totals : Totals) (sums : LedgerTotals) → AreTotals (started settings) (history settings lines) totals → AreLedgerTotals (ledger_history lines) sums
      → sums ≡ without_places totals
  same_sums totals sums are told =
      sums_alike (started settings) (history settings lines) totals sums are (subst (λ (past : List Moment). AreLedgerTotals past sums) (ledger_alike (started settings) (reverse lines) none) told)

  -- the report of leaks is the same
  pub same_leaks : (all : List Given) (totals : Totals) (text : List ℕ) → AreHeld all (history settings lines) → TellsHeld lines text
      → whole_ledger lines text ≡ whole_text Leaks settings lines all totals
  same_leaks all totals text is told =
      ap₂ (λ (found : List Diagnostic) (report : List ℕ). diagnostics_text found ++ report) same_diagnostics (told.text_is ∙ ap leaks_report (same_held all told.all is told.held))

-- the moments of lines, without those of the lines behind them
before : (start : Bare) (later past : List ReadLine) → drop (length later) (moments start (later ++ past)) ≡ moments start past
before start [] past = refl
before start (line ∷ later) past = ap (drop (suc (length later))) (moments-line start line (later ++ past)) ∙ before start later past

-- the moments of the first lines are the first moments
first_history : (settings : Settings) (many : ℕ) (lines : List ReadLine) → history settings (take many lines) ≡ first_moments many (history settings lines)
first_history settings many lines =
    let start = started settings in
    let later = reverse (drop many lines) in
    let first = reverse (take many lines) in
    let cut : later ++ first ≡ reverse lines = sym (reverse-append (take many lines) (drop many lines)) ∙ ap reverse (take-append-drop many lines) in
    let as_many : length later ≡ length (history settings lines) - many =
    length-reverse (drop many lines) ∙ length-drop many lines ∙ ap (λ n. n - many) (sym (length-moments start (reverse lines) ∙ length-reverse lines)) in
    sym (before start later first) ∙ ap (λ past. drop (length later) (moments start past)) cut ∙ ap (λ n. drop n (history settings lines)) as_many

-- both sections, by the entries that are held
abbrev sections_by : ℕ → List Entry → List Site → List Entry → List Site → List ℕ
sections_by line peak peak_sites end end_sites = both_sections line (length peak) (total_size peak) peak_sites (length end) (total_size end) end_sites

by_entries : {at_peak at_end : List Moment} (line : ℕ) (peak : HeldSites at_peak) (end : HeldSites at_end)
    → sections_of line peak end ≡ sections_by line (entries_of peak.all) peak.sites (entries_of end.all) end.sites
by_entries line peak end =
    ap (λ n. both_sections line n (total_size (entries_of peak.all)) peak.sites (length end.all) (total_size (entries_of end.all)) end.sites) (sym (length-map peak.all (λ (given : Given). given.entry)))
    ∙ ap (λ n. both_sections line (length (entries_of peak.all)) (total_size (entries_of peak.all)) peak.sites n (total_size (entries_of end.all)) end.sites) (sym (length-map end.all (λ (given : Given). given.entry)))

-- of equal entries the sites are the same, and so are the sections
pub sections_alike : {at_peak at_end other_peak other_end : List Moment} (line other : ℕ) (peak : HeldSites at_peak) (end : HeldSites at_end) (its_peak : HeldSites other_peak) (its_end : HeldSites other_end)
    → other ≡ line → entries_of its_peak.all ≡ entries_of peak.all → entries_of its_end.all ≡ entries_of end.all → sections_of other its_peak its_end ≡ sections_of line peak end
sections_alike line other peak end its_peak its_end same peaks ends =
    let at_peak = one_list_of_sites (entries_of peak.all) its_peak.sites peak.sites (subst (λ (entries : List Entry). AreSites entries its_peak.sites) peaks its_peak.are) peak.are in
    let at_end = one_list_of_sites (entries_of end.all) its_end.sites end.sites (subst (λ (entries : List Entry). AreSites entries its_end.sites) ends its_end.are) end.are in
    by_entries other its_peak its_end
    ∙ ap (λ n. sections_by n (entries_of its_peak.all) its_peak.sites (entries_of its_end.all) its_end.sites) same
    ∙ ap (λ entries. sections_by line entries its_peak.sites (entries_of its_end.all) its_end.sites) peaks
    ∙ ap (λ sites. sections_by line (entries_of peak.all) sites (entries_of its_end.all) its_end.sites) at_peak
    ∙ ap (λ entries. sections_by line (entries_of peak.all) peak.sites entries its_end.sites) ends
    ∙ ap (λ sites. sections_by line (entries_of peak.all) peak.sites (entries_of end.all) sites) at_end
    ∙ sym (by_entries line peak end)

-- the text of the sites is the same
pub same_sites : (settings : Settings) (lines : List ReadLine) (whole : List ℕ) (end left : Bytes) (text other : List ℕ) → refusals settings lines ≡ 0 → HasReadAll (Some whole) end lines
    → TellsSites settings lines (Some whole) left text → TellsLedgerSites lines other → other ≡ text
same_sites settings lines whole end left text other none all told served =
    let many = told.totals.peak_line in
    let line : served.totals.peak_line ≡ many = ap (λ (sums : LedgerTotals). sums.peak_line) (same_sums settings lines none told.totals served.totals told.summed served.summed) in
    let first : history settings told.first ≡ first_moments many (history settings lines) =
    ap (history settings) (told_first whole end left many lines told.first all told.again) ∙ first_history settings many lines in
    let peaks = same_first settings lines none many told.at_peak.all served.at_peak.all (subst (λ (past : List Moment). AreHeld told.at_peak.all past) first told.at_peak.held)
    (subst (λ n. AreHeld served.at_peak.all (first_moments n (ledger_history lines))) line served.at_peak.held) in
    let ends = same_held settings lines none told.at_end.all served.at_end.all told.at_end.held served.at_end.held in
    let both = sections_of many told.at_peak told.at_end in
    let refused : refused_line told.totals.refused ≡ [] = ap refused_line (told.summed.refused ∙ none) in
    served.text_is ∙ sections_alike many served.totals.peak_line told.at_peak told.at_end served.at_peak served.at_end line peaks ends
    ∙ sym (append-nil both) ∙ ap (λ rest. both ++ rest) (sym refused) ∙ sym told.text_is
