-- A report of a log without a heap, for which all memory was taken.
use Rattle.std.specs.Prelude.{◌≡◌, ℕ, List, [], ◌++◌, length, map, ⊤}
use Rattle.mtrace_replay.specs.declared.ledger.report.LedgerReport.{LedgerReport}
use Rattle.mtrace_replay.specs.declared.ledger.report.LedgerReport.TheVariants as report
use Rattle.mtrace_replay.specs.declared.ledger.prepared.Prepared.{Prepared}
use Rattle.mtrace_replay.specs.declared.ledger.prepared.Prepared.TheVariants as prepared
use Rattle.mtrace_replay.specs.Texts.{total_size, leaks_report, ledger_peak_report, both_sections, callers_text}
use Rattle.mtrace_replay.specs.Entry.{Entry}
use Rattle.mtrace_replay.specs.Callers.{AreCounted, AreCallers}
use Rattle.mtrace_replay.specs.Sites.{Site, AreSites, AreTallied}
use Rattle.mtrace_replay.specs.LedgerReplay.{LedgerReplayed, totals_of}

-- what is prepared is for this report
abbrev pub IsOf : LedgerReport → Prepared → Type 0
IsOf report.Held (prepared.Held addresses) = ⊤
IsOf report.Sums prepared.Sums = ⊤
IsOf report.Sites (prepared.Sites peak end) = ⊤
IsOf report.Callers (prepared.Callers peak end callers) = ⊤
IsOf report.Nothing prepared.Nothing = ⊤
IsOf report prepared = ⊥

-- the sites of what was held at the peak, and of what is held
abbrev pub AreHeldSites : LedgerReplayed → (peak end : List Site) → Type 0
AreHeldSites replay peak end = ((entries : List Entry) → AreTallied entries replay.at_peak → AreSites entries peak) × AreSites replay.all end

-- it has what the report names of this replay: the addresses that are held, in order, or the sites of what was held at the peak
-- and of what is held, or these and who asked
abbrev pub HasNamed : LedgerReplayed → Prepared → Type 0
HasNamed replay (prepared.Held addresses) = addresses.items ≡ map (λ entry. entry.addr) replay.all
HasNamed replay (prepared.Sites peak end) = AreHeldSites replay peak.items end.items
HasNamed replay (prepared.Callers peak end callers) =
    AreHeldSites replay peak.items end.items × ((calls temporary : List Entry) → AreCounted calls temporary replay.called → AreCallers calls temporary callers.items)
HasNamed replay prepared = ⊤

-- the text of these sites
abbrev pub held_text : LedgerReplayed → (peak end : List Site) → List ℕ
held_text replay peak end = both_sections replay.peak_line replay.peak_blocks replay.peak_bytes peak (length replay.all) (total_size replay.all) end

-- the text of what is prepared for this replay
abbrev pub prepared_text : LedgerReplayed → Prepared → List ℕ
prepared_text replay (prepared.Held addresses) = leaks_report replay.all
prepared_text replay prepared.Sums = ledger_peak_report (totals_of replay)
prepared_text replay (prepared.Sites peak end) = held_text replay peak.items end.items
prepared_text replay (prepared.Callers peak end callers) = held_text replay peak.items end.items ++ callers_text replay.called.total callers.items
prepared_text replay prepared.Nothing = []
