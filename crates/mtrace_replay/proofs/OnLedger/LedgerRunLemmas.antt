-- A run without a heap under way, and how it goes on and ends.
use Rattle.std.proofs.Common.{◌≡◌, ℕ, Bool, ◌||◌, List, [], ◌++◌, length, map, refl, sym, ap, ◌∙◌, subst, reverse, inl, inr, if◌then◌else◌}
use Rattle.std.specs.Prelude.{Err}
use Rattle.std.proofs.lemmas.List.{length-reverse, length-map}
use Rattle.mtrace_log.specs.Shown.{ReaderState, WriterState}
use Rattle.mtrace_log.specs.Output.{Wrote, Begins}
use Rattle.mtrace_replay.specs.declared.runs.status.Status.{Status}
use Rattle.mtrace_replay.specs.declared.runs.status.Status.TheVariants.{Clean, Found}
use Rattle.mtrace_replay.specs.declared.runs.status.RunFault.{RunFault}
use Rattle.mtrace_replay.specs.declared.runs.status.RunFault.TheVariants as fault
use Rattle.mtrace_replay.specs.declared.ledger.report.LedgerReport.{LedgerReport}
use Rattle.mtrace_replay.specs.declared.ledger.report.LedgerReport.TheVariants as report
use Rattle.mtrace_replay.specs.declared.ledger.prepared.Prepared.{Prepared}
use Rattle.mtrace_replay.specs.declared.ledger.prepared.Prepared.TheVariants as prepared
use Rattle.mtrace_replay.specs.Prepared.{IsOf, AreHeldSites, HasNamed, held_text, prepared_text}
use Rattle.mtrace_replay.specs.Entry.{Entry}
use Rattle.mtrace_replay.specs.Sites.{Site, AreSites}
use Rattle.mtrace_replay.specs.Totals.{asked_bytes_in, first_moments}
use Rattle.mtrace_replay.proofs.History.TotalsLemmas.{measure_is_one}
use Rattle.mtrace_replay.specs.Moment.{ReadLine, Given, Moment, half}
use Rattle.mtrace_replay.specs.History.{notes, pending, entries_of}
use Rattle.mtrace_replay.specs.Texts.{diagnostics_text, leaks_report, both_sections, total_size}
use Rattle.mtrace_replay.specs.LedgerReplay.{unplaced, ledger_moments, ledger_history, ledger_noted, LedgerReplayed, LedgerStandsFor, totals_of}
use Rattle.mtrace_replay.specs.RunLedger.{AreLedgerTotals, TellsLedgerSites, TellsLedger, ReportsLedger, LedgerEndsBy, EndsLedger}
use Rattle.mtrace_replay.specs.Following.{Notes, HasReadThese, has_some, HasFollowed, StopsWanting, ReadEnds}
use Rattle.mtrace_replay.specs.Reporting.{StopsAtWrite}
use Rattle.mtrace_replay.proofs.Running.RunLemmas.{begins_report, reports_all}
use Rattle.mtrace_replay.proofs.OnLedger.LedgerReplayLemmas.{length-ledger, entries_unplaced}

-- no line has diagnostics
pub no_notes : ledger_noted [] ≡ []
unfolding ledger_moments
no_notes = refl

-- the lines weren't all followed, and the run ended so
pub ledger_stops : (moments : List ReadLine → List Moment) (Tells : List ReadLine → List ℕ → Type 0) (Stands : List ReadLine → Type 0) (Lacks : Type 0) (fault : RunFault) (reader_old reader_new : ReaderState) (writer_old writer_new : WriterState)
    → ReadEnds Stands (λ past. notes (moments past)) (Notes (λ past. notes (moments past))) Lacks (Err fault) reader_old reader_new writer_old writer_new → LedgerEndsBy moments Tells (Err fault) reader_old reader_new writer_old writer_new
ledger_stops moments Tells Stands Lacks fault.Read reader_old reader_new writer_old writer_new ends = ends
ledger_stops moments Tells Stands Lacks fault.Write reader_old reader_new writer_old writer_new ends =
    let stops = ends.write_fault in
    record { write_fault = record { lines = stops.lines; unused = stops.unused; begun = inl (stops.read, subst (λ (text : List ℕ). Begins writer_old writer_new text) stops.told stops.begun) }; writer_failed = ends.writer_failed; reader_not_failed = ends.reader_not_failed }
ledger_stops moments Tells Stands Lacks fault.OutOfMemory reader_old reader_new writer_old writer_new ends = ends.0
ledger_stops moments Tells Stands Lacks fault.BadSettings reader_old reader_new writer_old writer_new ends = ends
ledger_stops moments Tells Stands Lacks fault.Image reader_old reader_new writer_old writer_new ends = ends

module _ (replay : LedgerReplayed) (lines : List ReadLine) (stands : LedgerStandsFor replay (reverse lines)) where
  abbrev given_of : List Given
  given_of = map unplaced replay.all

  pub half_is : half replay.lines replay.pending ≡ half (length lines) (pending (reverse lines))
  half_is = ap (λ n. half n replay.pending) (stands.lines_are ∙ length-reverse lines) ∙ ap (half (length lines)) stands.pending_is

  pub summed : AreLedgerTotals (ledger_history lines) (totals_of replay)
  summed = record {
    lines = stands.lines_are ∙ sym (length-ledger (reverse lines));
    served = stands.served_are;
    live_bytes = record { all = given_of; held = stands.held; measured = ap total_size (sym (entries_unplaced replay.all)) };
    live_blocks = record { all = given_of; held = stands.held; measured = sym (length-map replay.all unplaced) };
    peak = stands.peak;
  }

  -- what was held at the peak
  abbrev peak_all : List Given
  peak_all = stands.at_peak.blocks.all

  peak_bytes_are : replay.peak_bytes ≡ total_size (entries_of peak_all)
  peak_bytes_are =
      measure_is_one asked_bytes_in (first_moments replay.peak_line (ledger_history lines)) replay.peak_bytes (asked_bytes_in peak_all) stands.peak.reached
      (record { all = peak_all; held = stands.at_peak.blocks.held; measured = refl })

  sections_are : (peak end : List Site) → both_sections replay.peak_line replay.peak_blocks replay.peak_bytes peak (length replay.all) (total_size replay.all) end
      ≡ both_sections replay.peak_line (length peak_all) (total_size (entries_of peak_all)) peak (length given_of) (total_size (entries_of given_of)) end
  sections_are peak end =
      ap (λ n. both_sections replay.peak_line n replay.peak_bytes peak (length replay.all) (total_size replay.all) end) stands.at_peak.blocks.measured
      ∙ ap (λ n. both_sections replay.peak_line (length peak_all) n peak (length replay.all) (total_size replay.all) end) peak_bytes_are
      ∙ ap (λ n. both_sections replay.peak_line (length peak_all) (total_size (entries_of peak_all)) peak n (total_size replay.all) end) (sym (length-map replay.all unplaced))
      ∙ ap (λ (all : List Entry). both_sections replay.peak_line (length peak_all) (total_size (entries_of peak_all)) peak (length given_of) (total_size all) end) (sym (entries_unplaced replay.all))

  held_tells : (peak end : List Site) → AreHeldSites replay peak end → TellsLedgerSites lines (held_text replay peak end)
  held_tells peak end named = record {
    totals = totals_of replay;
    summed = summed;
    at_peak = record { all = peak_all; held = stands.at_peak.blocks.held; sites = peak; are = named.0 (entries_of peak_all) (stands.at_peak.sites peak_all stands.at_peak.blocks.held) };
    at_end = record { all = given_of; held = stands.held; sites = end; are = subst (λ (all : List Entry). AreSites all end) (sym (entries_unplaced replay.all)) named.1 };
    text_is = sections_are peak end;
  }

  -- the text of a report for which memory was taken
  pub prepared_tells : (report : LedgerReport) (prepared : Prepared) → IsOf report prepared → HasNamed replay prepared → TellsLedger report lines (prepared_text replay prepared)
  prepared_tells report.Held (prepared.Held addresses) is named = record { all = given_of; held = stands.held; text_is = ap leaks_report (sym (entries_unplaced replay.all)) }
  prepared_tells report.Sums prepared.Sums is named = record { totals = totals_of replay; summed = summed; text_is = refl }
  prepared_tells report.Sites (prepared.Sites peak end) is named = held_tells peak.items end.items named
  prepared_tells report.Callers (prepared.Callers peak end callers) is named = record {
    held = held_text replay peak.items end.items;
    tells = held_tells peak.items end.items named.0;
    total = replay.called.total;
    callers = callers.items;
    calls_are = record { total_is = stands.called.total; callers_are = named.1 _ _ stands.called };
    text_is = refl;
  }
  prepared_tells report.Nothing prepared.Nothing is named = refl
  prepared_tells report prepared is named = absurd is

-- what is written at the end: the diagnostic of the last line, and then the text of the report
abbrev pub ledger_end : LedgerReplayed → List ℕ → List ℕ
ledger_end replay text = diagnostics_text (half replay.lines replay.pending) ++ text

module _ (report : LedgerReport) (replay : LedgerReplayed) (has_diagnostics : Bool) (reader_old reader_new : ReaderState) (writer_old writer_middle writer_new : WriterState)
    (done : HasFollowed (λ past. LedgerStandsFor replay past) ledger_noted (Notes ledger_noted) has_diagnostics reader_old reader_new writer_old writer_middle) (prepared : Prepared) (is_of : IsOf report prepared) (named : HasNamed replay prepared) where
  abbrev its_text : List ℕ
  its_text = prepared_text replay prepared

  -- the writer failed at the end
  pub ledger_write : Begins writer_middle writer_new (ledger_end replay its_text) → StopsAtWrite HasReadThese ledger_moments (TellsLedger report) reader_old reader_new writer_old writer_new
  ledger_write begins =
      begins_report (λ past. LedgerStandsFor replay past) ledger_moments (TellsLedger report) has_diagnostics reader_old reader_new writer_old writer_middle writer_new done
      (half replay.lines replay.pending) (half_is replay done.lines done.stands) its_text (prepared_tells replay done.lines done.stands report prepared is_of named) HasReadThese begins

  -- all was written
  unfoldable pub ledger_all : (status : Status) → Wrote writer_middle writer_new (ledger_end replay its_text)
      → status ≡ (if has_diagnostics || (has_some (half replay.lines replay.pending) || has_some replay.all) then Found else Clean)
      → ReportsLedger report status reader_old reader_new writer_old writer_new
  ledger_all status wrote is =
      reports_all (λ past. LedgerStandsFor replay past) ledger_moments (TellsLedger report) has_diagnostics reader_old reader_new writer_old writer_middle writer_new done
      (half replay.lines replay.pending) (half_is replay done.lines done.stands) its_text (prepared_tells replay done.lines done.stands report prepared is_of named)
      (given_of replay done.lines done.stands) done.stands.held replay.all (sym (entries_unplaced replay.all)) status wrote is

-- a run without a report has ended, with this replay
pub ledger_nothing : (replay : LedgerReplayed) (has_diagnostics : Bool) (reader_old reader_new : ReaderState) (writer_old writer_middle writer_new : WriterState)
    (done : HasFollowed (λ past. LedgerStandsFor replay past) ledger_noted (Notes ledger_noted) has_diagnostics reader_old reader_new writer_old writer_middle) (prepared : Prepared) (is_of : IsOf report.Nothing prepared) (named : HasNamed replay prepared) (status : Status)
    → Wrote writer_middle writer_new (ledger_end replay (prepared_text replay prepared))
    → status ≡ (if has_diagnostics || (has_some (half replay.lines replay.pending) || has_some replay.all) then Found else Clean)
    → EndsLedger status replay reader_old reader_new writer_old writer_new
unfolding ledger_all
ledger_nothing replay has_diagnostics reader_old reader_new writer_old writer_middle writer_new done prepared is_of named status wrote is = record {
  reports = ledger_all report.Nothing replay has_diagnostics reader_old reader_new writer_old writer_middle writer_new done prepared is_of named status wrote is;
  stands = done.stands;
}

-- memory was refused behind the last line
pub ledger_memory : (replay : LedgerReplayed) (has_diagnostics : Bool) (reader_old reader_new : ReaderState) (writer_old writer_middle : WriterState)
    → HasFollowed (λ past. LedgerStandsFor replay past) ledger_noted (Notes ledger_noted) has_diagnostics reader_old reader_new writer_old writer_middle → StopsWanting (Notes ledger_noted) reader_old reader_new writer_old writer_middle
ledger_memory replay has_diagnostics reader_old reader_new writer_old writer_middle done = record { lines = done.lines; unused = []; reason = inr done.read; text = done.text; told = done.told; wrote = done.wrote }
