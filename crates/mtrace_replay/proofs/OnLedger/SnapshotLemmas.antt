-- A run that puts snapshots under way, and how it ends.
use Rattle.std.proofs.Common.{◌≡◌, ℕ, Bool, ◌||◌, List, [], ◌∷◌, ◌++◌, length, map, refl, sym, ap, ◌∙◌, subst, reverse, inl, inr, Option, Some, None, if◌then◌else◌}
use Rattle.std.specs.Prelude.{Err}
use Rattle.std.proofs.lemmas.List.{append-nil, reverse-reverse}
use Rattle.mtrace_log.specs.Shown.{Bytes, ReaderState, WriterState}
use Rattle.mtrace_log.specs.HasRead.{HasReadAll}
use Rattle.mtrace_log.specs.Output.{Wrote, Begins}
use Rattle.mtrace_log.proofs.Writing.{Wrote-append, Begins-after}
use Rattle.mtrace_replay.specs.declared.held.diagnostic.Diagnostic.{Diagnostic}
use Rattle.mtrace_replay.specs.declared.runs.status.Status.{Status}
use Rattle.mtrace_replay.specs.declared.runs.status.Status.TheVariants.{Clean, Found}
use Rattle.mtrace_replay.specs.declared.runs.status.RunFault.{RunFault}
use Rattle.mtrace_replay.specs.declared.runs.status.RunFault.TheVariants as fault
use Rattle.mtrace_replay.specs.declared.ledger.report.LedgerReport.{LedgerReport}
use Rattle.mtrace_replay.specs.declared.ledger.prepared.Prepared.{Prepared}
use Rattle.mtrace_replay.specs.declared.ledger.snapshots.Snapshots.{Snapshots}
use Rattle.mtrace_replay.specs.Prepared.{IsOf, HasNamed, prepared_text}
use Rattle.mtrace_replay.specs.Moment.{ReadLine, half}
use Rattle.mtrace_replay.specs.History.{pending}
use Rattle.mtrace_replay.specs.Texts.{diagnostics_text, clean_or_found}
use Rattle.mtrace_replay.specs.Marks.{snapshot_time}
use Rattle.mtrace_replay.specs.LineReplay.{AddsTo}
use Rattle.mtrace_replay.specs.Following.{has_some, HasFollowed, ReadEnds}
use Rattle.mtrace_replay.specs.Reporting.{all_diagnostics}
use Rattle.mtrace_replay.specs.LedgerReplay.{unplaced, ledger_moments, ledger_noted, LedgerStandsFor}
use Rattle.mtrace_replay.specs.RunLedger.{TellsLedger}
use Rattle.mtrace_replay.specs.Snapshots.{snapshot_line, IsSnapshot, IsBehind, TellsSnapshots, ReportsSnapshots, StopsInSnapshots, RunsSnapshots, SnapshotsOf, StandsWithSnapshots, snapshot_rules}
use Rattle.mtrace_replay.proofs.Running.ReplayingLemmas.{prepend_nothing}
use Rattle.mtrace_replay.proofs.Running.RunLemmas.{status_whole}
use Rattle.mtrace_replay.proofs.OnLedger.LedgerReplayLemmas.{entries_unplaced}
use Rattle.mtrace_replay.proofs.OnLedger.LedgerRunLemmas.{half_is, prepared_tells, ledger_end}

module _ (snapshots : Snapshots) (its : List Diagnostic) where
  -- no snapshot is due
  pub none_due : snapshots.clock.due ≡ None → (text : List ℕ) → text ≡ diagnostics_text its → AddsTo snapshot_rules snapshots its text
  none_due none text text_is start line past before stands noted_is told = record {
    before = before;
    told = told;
    its = its;
    its_are = noted_is;
    behind = [];
    snapshot = subst (λ (due : Option ℕ). IsBehind start.report (line ∷ past) due [])
        (sym none ∙ stands.clock.due ∙ ap (λ every. snapshot_time every (line ∷ past)) stands.every) refl;
    text_is = ap (λ end. before ++ end) (text_is ∙ sym (append-nil (diagnostics_text its)));
  }

  -- the report of the lines so far
  so_far : (start : SnapshotsOf) (past : List ReadLine) → StandsWithSnapshots start snapshots past → (prepared : Prepared) → IsOf snapshots.report prepared → HasNamed snapshots.replay prepared
      → TellsLedger start.report (reverse past) (prepared_text snapshots.replay prepared)
  so_far start past stands prepared is_of named =
      let again = subst (λ (lines : List ReadLine). LedgerStandsFor snapshots.replay lines) (sym (reverse-reverse past)) stands.replay in
      subst (λ (report : LedgerReport). TellsLedger report (reverse past) (prepared_text snapshots.replay prepared)) stands.report
      (prepared_tells snapshots.replay (reverse past) again snapshots.report prepared is_of named)

  -- a snapshot is due
  pub one_due : (time : ℕ) → snapshots.clock.due ≡ Some time → (prepared : Prepared) → IsOf snapshots.report prepared → HasNamed snapshots.replay prepared
      → AddsTo snapshot_rules snapshots its (diagnostics_text its ++ (snapshot_line snapshots.replay.lines time ++ prepared_text snapshots.replay prepared))
  one_due time some prepared is_of named start line past before stands noted_is told =
      let behind = snapshot_line snapshots.replay.lines time ++ prepared_text snapshots.replay prepared in
      let is : IsSnapshot start.report (line ∷ past) time behind = record {
        its = prepared_text snapshots.replay prepared;
        tells = so_far start (line ∷ past) stands prepared is_of named;
        text_is = ap (λ n. snapshot_line n time ++ prepared_text snapshots.replay prepared) stands.replay.lines_are;
      } in
      record {
        before = before;
        told = told;
        its = its;
        its_are = noted_is;
        behind = behind;
        snapshot = subst (λ (due : Option ℕ). IsBehind start.report (line ∷ past) due behind)
            (sym some ∙ stands.clock.due ∙ ap (λ every. snapshot_time every (line ∷ past)) stands.every) is;
        text_is = refl;
      }

-- the lines weren't all followed, and the run ended so
pub snapshots_stop : (every : ℕ) (report : LedgerReport) (Stands : List ReadLine → Type 0) (stop : RunFault) (reader_old reader_new : ReaderState) (writer_old writer_new : WriterState)
    → (every ≡ 0 → ⊥) → ReadEnds Stands ledger_noted (TellsSnapshots every report) (Unit {0}) (Err stop) reader_old reader_new writer_old writer_new
    → reader_new.whole ≡ reader_old.whole → RunsSnapshots every report (Err stop) reader_old reader_new writer_old writer_new
snapshots_stop every report Stands fault.Read reader_old reader_new writer_old writer_new some ends whole =
    record { ends = ends; bad_settings = ((λ is. absurd cc), (λ zero. absurd (some zero))); whole = whole }
snapshots_stop every report Stands fault.Write reader_old reader_new writer_old writer_new some ends whole =
    let stops = ends.write_fault in
    record {
      ends = record {
        write_fault = record { lines = stops.lines; unused = stops.unused; along = stops.text; told = stops.told; begun = inl (stops.read, stops.begun) };
        writer_failed = ends.writer_failed;
        reader_not_failed = ends.reader_not_failed;
      };
      bad_settings = ((λ is. absurd cc), (λ zero. absurd (some zero)));
      whole = whole;
    }
snapshots_stop every report Stands fault.OutOfMemory reader_old reader_new writer_old writer_new some ends whole =
    record { ends = ends.0; bad_settings = ((λ is. absurd cc), (λ zero. absurd (some zero))); whole = whole }
snapshots_stop every report Stands fault.BadSettings reader_old reader_new writer_old writer_new some ends whole = absurd ends
snapshots_stop every report Stands fault.Image reader_old reader_new writer_old writer_new some ends whole = absurd ends

module _ (start : SnapshotsOf) (snapshots : Snapshots) (has_diagnostics : Bool) (reader_old reader_new : ReaderState) (writer_old writer_middle writer_new : WriterState)
    (done : HasFollowed (λ past. StandsWithSnapshots start snapshots past) ledger_noted (TellsSnapshots start.every start.report) has_diagnostics reader_old reader_new writer_old writer_middle)
    (prepared : Prepared) (is_of : IsOf start.report prepared) (named : HasNamed snapshots.replay prepared) where
  abbrev its_text : List ℕ
  its_text = prepared_text snapshots.replay prepared

  its_tells : TellsLedger start.report done.lines its_text
  its_tells = prepared_tells snapshots.replay done.lines done.stands.replay start.report prepared is_of named

  end_is : ledger_end snapshots.replay its_text ≡ diagnostics_text (half (length done.lines) (pending (reverse done.lines))) ++ its_text
  end_is = ap (λ (last : List Diagnostic). diagnostics_text last ++ its_text) (half_is snapshots.replay done.lines done.stands.replay)

  -- the writer failed at the end
  pub snapshots_write : Begins writer_middle writer_new (ledger_end snapshots.replay its_text) → StopsInSnapshots start.every start.report reader_old reader_new writer_old writer_new
  snapshots_write begun = record {
    lines = done.lines;
    unused = [];
    along = done.text;
    told = done.told;
    begun = inr (record {
      read = subst (λ (after : Bytes). HasReadAll reader_old.left after done.lines) (sym (prepend_nothing reader_new.left)) done.read;
      text = its_text;
      tells = its_tells;
      begun = subst (λ (end : List ℕ). Begins writer_old writer_new (done.text ++ end)) end_is
          (Begins-after writer_old writer_middle writer_new done.text (ledger_end snapshots.replay its_text) done.wrote begun);
    });
  }

  -- all was written
  pub snapshots_all : (status : Status) → Wrote writer_middle writer_new (ledger_end snapshots.replay its_text)
      → status ≡ (if has_diagnostics || (has_some (half snapshots.replay.lines snapshots.replay.pending) || has_some snapshots.replay.all) then Found else Clean)
      → ReportsSnapshots start.every start.report status reader_old reader_new writer_old writer_new
  snapshots_all status wrote is = record {
    lines = done.lines;
    read = done.read;
    along = done.text;
    told = done.told;
    text = its_text;
    tells = its_tells;
    wrote = subst (λ (end : List ℕ). Wrote writer_old writer_new (done.text ++ end)) end_is
        (Wrote-append writer_old writer_middle writer_new done.text (ledger_end snapshots.replay its_text) done.wrote wrote);
    all = map unplaced snapshots.replay.all;
    held = done.stands.replay.held;
    status_is = status_whole (ledger_noted (reverse done.lines)) (half snapshots.replay.lines snapshots.replay.pending) snapshots.replay.all has_diagnostics status done.has_diagnostics_is is
        ∙ ap (λ (last : List Diagnostic). clean_or_found (ledger_noted (reverse done.lines) ++ last) snapshots.replay.all) (half_is snapshots.replay done.lines done.stands.replay)
        ∙ ap (clean_or_found (all_diagnostics ledger_moments done.lines)) (sym (entries_unplaced snapshots.replay.all));
  }
