-- A run under way, and how it goes on and ends.
use Rattle.std.proofs.Common.{◌≡◌, ℕ, Bool, ◌||◌, List, [], ◌∷◌, ◌++◌, length, refl, sym, ap, ◌∙◌, subst, reverse, inl, inr, append_assoc, arith, if◌then◌else◌}
use Rattle.std.specs.Prelude.{nat_lt, Result, Ok, Err, IsErrOf, IsTrue, ◌↔◌}
use Rattle.mtrace_log.specs.Trace.{HasTaken, FlushWasAsked, flushed}
use Rattle.mtrace_log.specs.declared.failed.Failed.{Failed as Failure}
use Rattle.mtrace_log.specs.declared.call.Call.{Call}
use Rattle.std.proofs.lemmas.List.{length-reverse}
use Rattle.std.proofs.lemmas.Bool.{lt-ltb, le-ltb}
use Rattle.mtrace_log.specs.Shown.{Bytes, ReaderState, WriterState}
use Rattle.mtrace_log.specs.HasRead.{HasReadAll}
use Rattle.mtrace_log.specs.Event.{Event}
use Rattle.mtrace_log.specs.declared.event.LineFault.{LineFault}
use Rattle.mtrace_replay.specs.declared.heap.settings.Settings.{Settings}
use Rattle.mtrace_replay.specs.declared.held.diagnostic.Diagnostic.{Diagnostic}
use Rattle.mtrace_replay.specs.Entry.{Entry}
use Rattle.mtrace_replay.specs.declared.runs.status.Status.{Status}
use Rattle.mtrace_replay.specs.declared.runs.status.Status.TheVariants.{Clean, Found}
use Rattle.mtrace_replay.specs.Started.{started}
use Rattle.mtrace_replay.specs.Moment.{ReadLine, Moment, Given, moment, half}
use Rattle.mtrace_replay.specs.History.{moments, content_after, held, history, notes, pending, AreHeld, entries_of}
use Rattle.mtrace_replay.specs.Texts.{diagnostics_text, report_text, clean_or_found}
use Rattle.mtrace_log.specs.Output.{Wrote, Begins}
use Rattle.mtrace_replay.specs.Replay.{Replayed, StandsFor, entries, added_diagnostics, heap_notes}
use Rattle.mtrace_replay.specs.declared.runs.report.Report.{Report}
use Rattle.mtrace_replay.specs.declared.runs.report.Report.TheVariants.{Nothing}
use Rattle.mtrace_replay.specs.Following.{Notes, HasReadUpTo, has_some, noted_text, HasFollowed, StopsWriting, ReadEnds}
use Rattle.mtrace_replay.specs.Reporting.{all_diagnostics, Reports, StopsAtWrite}
use Rattle.mtrace_replay.specs.Run.{TellsReport, ReportsOnHeap, RunsBy, HoldsAtEnd, EndsAt}
use Rattle.mtrace_replay.specs.Course.{Course, shown_before, shown_after}
use Rattle.mtrace_replay.specs.declared.runs.status.RunFault.{RunFault}
use Rattle.mtrace_replay.specs.declared.runs.status.RunFault.TheVariants as fault
use Rattle.mtrace_replay.proofs.History.Moments.{moments-none, moments-line}
use Rattle.mtrace_replay.proofs.Told.DiagnosticLemmas.{diagnostics_text-append}
use Rattle.mtrace_replay.proofs.Running.ReplayingLemmas.{prepend_nothing, reverse-more}
use Rattle.mtrace_log.proofs.Writing.{Wrote-append, Begins-after, Begins-longer}

-- the moment of one line more
abbrev pub next_moment : Settings → List (Result Event LineFault) → Result Event LineFault → Moment
next_moment settings lines line =
    moment (length (reverse lines)) line (pending (reverse lines)) (held (history settings lines)) (content_after (started settings) (history settings lines))

pub history-more : (settings : Settings) (lines : List (Result Event LineFault)) (line : Result Event LineFault) → history settings (lines ++ line ∷ []) ≡ next_moment settings lines line ∷ history settings lines
history-more settings lines line = ap (moments (started settings)) (reverse-more lines line) ∙ moments-line (started settings) line (reverse lines)

-- the text of diagnostics, and those of the end, and then a text
pub text_is : (first last : List Diagnostic) (text : List ℕ) → diagnostics_text (first ++ last) ++ text ≡ diagnostics_text first ++ (diagnostics_text last ++ text)
text_is first last text = ap (λ front. front ++ text) (diagnostics_text-append first last) ∙ append_assoc (diagnostics_text first) (diagnostics_text last) text

-- the status, of the diagnostics of the lines, those at the end, and what is held
pub status-is : (first last : List Diagnostic) (all : List Entry)
    → (if has_some first || (has_some last || has_some all) then Found else Clean) ≡ clean_or_found (first ++ last) all
status-is (diagnostic ∷ first) last all = refl
status-is [] (diagnostic ∷ last) all = refl
status-is [] [] (one ∷ all) = refl
status-is [] [] [] = refl

-- whether something is held, by how much is
pub some_held : {A : Type 0} (held : List A) (n : ℕ) → n ≡ length held → nat_lt 0 n ≡ has_some held
some_held [] n is = le-ltb 0 n (omega (arith, is))
some_held (one ∷ more) n is = lt-ltb 0 n (omega (arith, is))

-- the status, by whether a line had a diagnostic
pub status_whole : (first last : List Diagnostic) (all : List Entry) (has_diagnostics : Bool) (status : Status) → has_diagnostics ≡ has_some first
    → status ≡ (if has_diagnostics || (has_some last || has_some all) then Found else Clean) → status ≡ clean_or_found (first ++ last) all
status_whole first last all has_diagnostics status has is = is ∙ ap (λ b. if b || (has_some last || has_some all) then Found else Clean) has ∙ status-is first last all

-- all lines were followed, and then come the diagnostics of the end, and a text
module _ (Stands : List ReadLine → Type 0) (noted : List ReadLine → List Diagnostic) (has_diagnostics : Bool) (reader_old reader_new : ReaderState) (writer_old writer_middle writer_new : WriterState)
    (done : HasFollowed Stands noted (Notes noted) has_diagnostics reader_old reader_new writer_old writer_middle) (last : List Diagnostic) where
  wrote_notes : Wrote writer_old writer_middle (noted_text noted done.lines)
  wrote_notes = subst (λ (all : List ℕ). Wrote writer_old writer_middle all) done.told done.wrote

  pub wrote_whole : (text : List ℕ) → Wrote writer_middle writer_new (diagnostics_text last ++ text) → Wrote writer_old writer_new (diagnostics_text (noted (reverse done.lines) ++ last) ++ text)
  wrote_whole text wrote = subst (λ (all : List ℕ). Wrote writer_old writer_new all) (sym (text_is (noted (reverse done.lines)) last text))
      (Wrote-append writer_old writer_middle writer_new (noted_text noted done.lines) (diagnostics_text last ++ text) wrote_notes wrote)

  pub begun_whole : (text : List ℕ) → Begins writer_middle writer_new (diagnostics_text last ++ text) → Begins writer_old writer_new (diagnostics_text (noted (reverse done.lines) ++ last) ++ text)
  begun_whole text begun = subst (λ (all : List ℕ). Begins writer_old writer_new all) (sym (text_is (noted (reverse done.lines)) last text))
      (Begins-after writer_old writer_middle writer_new (noted_text noted done.lines) (diagnostics_text last ++ text) wrote_notes begun)

-- what stands for lines stands for less
abbrev pub followed_also : (Stood Stands : List ReadLine → Type 0) (noted : List ReadLine → List Diagnostic) (Tells : List ReadLine → List ℕ → Type 0) (has_diagnostics : Bool) (reader_old reader_new : ReaderState) (writer_old writer_new : WriterState)
    → ((past : List ReadLine) → Stood past → Stands past)
    → HasFollowed Stood noted Tells has_diagnostics reader_old reader_new writer_old writer_new → HasFollowed Stands noted Tells has_diagnostics reader_old reader_new writer_old writer_new
followed_also Stood Stands noted Tells has_diagnostics reader_old reader_new writer_old writer_new also done = record {
  lines = done.lines;
  read = done.read;
  stands = also (reverse done.lines) done.stands;
  text = done.text;
  told = done.told;
  wrote = done.wrote;
  has_diagnostics_is = done.has_diagnostics_is;
}

-- all lines were followed, and these are the diagnostics at the end, and the text of the report
module _ (Stands : List ReadLine → Type 0) (moments : List ReadLine → List Moment) (Tells : List ReadLine → List ℕ → Type 0) (has_diagnostics : Bool)
    (reader_old reader_new : ReaderState) (writer_old writer_middle writer_new : WriterState) (done : HasFollowed Stands (λ past. notes (moments past)) (Notes (λ past. notes (moments past))) has_diagnostics reader_old reader_new writer_old writer_middle)
    (last : List Diagnostic) (last_is : last ≡ half (length done.lines) (pending (reverse done.lines))) (text : List ℕ) (tells : Tells done.lines text) where
  pub whole_is : diagnostics_text (notes (moments (reverse done.lines)) ++ last) ++ text ≡ diagnostics_text (all_diagnostics moments done.lines) ++ text
  whole_is = ap (λ (end : List Diagnostic). diagnostics_text (notes (moments (reverse done.lines)) ++ end) ++ text) last_is

  -- the writer failed at the end
  pub begins_report : (HasReadSome : (reader_old reader_new : ReaderState) → List ReadLine → Type 0) → Begins writer_middle writer_new (diagnostics_text last ++ text)
      → StopsAtWrite HasReadSome moments Tells reader_old reader_new writer_old writer_new
  begins_report HasReadSome begins = record {
    lines = done.lines;
    unused = [];
    begun = inr (record {
      read = subst (λ (after : Bytes). HasReadAll reader_old.left after done.lines) (sym (prepend_nothing reader_new.left)) done.read;
      text = text;
      tells = tells;
      begun = subst (λ (all : List ℕ). Begins writer_old writer_new all) whole_is
          (begun_whole Stands (λ past. notes (moments past)) has_diagnostics reader_old reader_new writer_old writer_middle writer_new done last text begins);
    });
  }

  -- all was written
  abbrev pub reports_all : (all : List Given) → AreHeld all (moments (reverse done.lines)) → (held : List Entry) → held ≡ entries_of all → (status : Status) → Wrote writer_middle writer_new (diagnostics_text last ++ text)
      → status ≡ (if has_diagnostics || (has_some last || has_some held) then Found else Clean)
      → Reports moments Tells status reader_old reader_new writer_old writer_new
  reports_all all are_held held same status wrote is = record {
    lines = done.lines;
    read = done.read;
    text = text;
    tells = tells;
    wrote = subst (λ (all : List ℕ). Wrote writer_old writer_new all) whole_is
        (wrote_whole Stands (λ past. notes (moments past)) has_diagnostics reader_old reader_new writer_old writer_middle writer_new done last text wrote);
    all = all;
    held = are_held;
    status_is = status_whole (notes (moments (reverse done.lines))) last held has_diagnostics status done.has_diagnostics_is is
        ∙ ap (λ (end : List Diagnostic). clean_or_found (notes (moments (reverse done.lines)) ++ end) held) last_is
        ∙ ap (clean_or_found (all_diagnostics moments done.lines)) same;
  }

-- the diagnostic at the end, of a replay that stands for the lines
pub half-is : (settings : Settings) (replay : Replayed) (lines : List (Result Event LineFault)) → StandsFor replay settings (reverse lines)
    → half replay.totals.lines replay.pending ≡ half (length lines) (pending (reverse lines))
half-is settings replay lines stands =
    ap (λ n. half n replay.pending) (stands.lines_are ∙ length-reverse lines) ∙ ap (half (length lines)) stands.pending_is

-- what a replay writes at the end
abbrev pub end_text : Report → Replayed → List ℕ
end_text report replay =
    diagnostics_text (half replay.totals.lines replay.pending) ++ report_text report (entries replay) replay.totals replay.content

-- the text of the report of a replay that stands for the lines
abbrev pub report_tells : (report : Report) (settings : Settings) (replay : Replayed) (lines : List ReadLine) → StandsFor replay settings (reverse lines)
    → TellsReport report settings lines (report_text report (entries replay) replay.totals replay.content)
report_tells report settings replay lines stands = record {
  all = replay.given;
  held = stands.held;
  totals = replay.totals;
  summed = stands.totals;
  text_is = ap (report_text report (entries replay) replay.totals) stands.content_is;
}

-- no line has diagnostics
pub no_notes : (settings : Settings) → heap_notes settings [] ≡ []
no_notes settings = ap notes (moments-none (started settings))

-- the diagnostics of one line more
pub notes_more : (settings : Settings) (line : ReadLine) (past : List ReadLine) → heap_notes settings (line ∷ past) ≡ heap_notes settings past ++ added_diagnostics settings line past
notes_more settings line past = ap notes (moments-line (started settings) line past)

-- the lines weren't all followed, of which a replay would tell this text
module _ (moments : List ReadLine → List Moment) (Tells : List ReadLine → List ℕ → Type 0) (Stands : List ReadLine → Type 0) (told : List ℕ) (tells : (lines : List ReadLine) → Stands (reverse lines) → Tells lines told) where
  -- the writer failed at a line's diagnostics
  stops_at_write : (reader_old reader_new : ReaderState) (writer_old writer_new : WriterState) → StopsWriting Stands (Notes (λ past. notes (moments past))) reader_old reader_new writer_old writer_new
      → StopsAtWrite HasReadUpTo moments Tells reader_old reader_new writer_old writer_new
  stops_at_write reader_old reader_new writer_old writer_new stops =
      let lines = stops.lines in
      let noted = notes (moments (reverse lines)) in
      let last = half (length lines) (pending (reverse lines)) in
      let begun = subst (λ (text : List ℕ). Begins writer_old writer_new text) stops.told stops.begun in
      record {
        lines = lines;
        unused = stops.unused;
        begun = elim stops.read [
          | inl reading ↦ inl (reading, begun)
          | inr all ↦ inr (record {
            read = all;
            text = told;
            tells = tells lines stops.stands;
            begun = subst (λ (text : List ℕ). Begins writer_old writer_new text) (sym (text_is noted last told)) (Begins-longer writer_old writer_new (diagnostics_text noted) (diagnostics_text last ++ told) begun);
          })
        ];
      }

  -- the run ended so
  pub run_stops : {A B : Type 0} (is_bad : Bool) (stop : RunFault) (reader : Course A ReaderState) (writer : Course B WriterState) → IsErrOf {T = Status} (Err fault.Read) fault.BadSettings ↔ IsTrue is_bad
      → ReadEnds Stands (λ past. notes (moments past)) (Notes (λ past. notes (moments past))) ⊥ (Err stop) (shown_before reader) (shown_after reader) (shown_before writer) (shown_after writer)
      → (shown_after reader).whole ≡ (shown_before reader).whole → RunsBy moments Tells is_bad (Err stop) reader writer
  run_stops is_bad fault.Read reader writer bad ends whole = record { ends = ends; bad_settings = bad; whole = whole }
  run_stops is_bad fault.Write reader writer bad ends whole = record {
    ends = record {
      write_fault = stops_at_write (shown_before reader) (shown_after reader) (shown_before writer) (shown_after writer) ends.write_fault;
      writer_failed = ends.writer_failed;
      reader_not_failed = ends.reader_not_failed;
    };
    bad_settings = ((λ is. absurd (cc)), (λ is. absurd (let read = bad.1 is in cc)));
    whole = whole;
  }
  run_stops is_bad fault.OutOfMemory reader writer bad ends whole = absurd ends.1
  run_stops is_bad fault.BadSettings reader writer bad ends whole = absurd ends
  run_stops is_bad fault.Image reader writer bad ends whole = absurd ends

module _ (report : Report) (settings : Settings) (replay : Replayed) (has_diagnostics : Bool) (reader_old reader_new : ReaderState) (writer_old writer_middle writer_new : WriterState)
    (done : HasFollowed (λ past. StandsFor replay settings past) (heap_notes settings) (Notes (heap_notes settings)) has_diagnostics reader_old reader_new writer_old writer_middle) where
  abbrev its_last : List Diagnostic
  its_last = half replay.totals.lines replay.pending

  abbrev its_text : List ℕ
  its_text = report_text report (entries replay) replay.totals replay.content

  -- the writer failed at the end
  pub report_write : Begins writer_middle writer_new (end_text report replay)
      → StopsAtWrite HasReadUpTo (moments (started settings)) (TellsReport report settings) reader_old reader_new writer_old writer_new
  report_write begins =
      begins_report (λ past. StandsFor replay settings past) (moments (started settings)) (TellsReport report settings) has_diagnostics reader_old reader_new writer_old writer_middle writer_new done
      its_last (half-is settings replay done.lines done.stands) its_text (report_tells report settings replay done.lines done.stands) HasReadUpTo begins

  -- all was written
  abbrev pub report_all : (status : Status) → Wrote writer_middle writer_new (end_text report replay)
      → status ≡ (if has_diagnostics || (has_some its_last || has_some (entries replay)) then Found else Clean)
      → ReportsOnHeap report settings status reader_old reader_new writer_old writer_new
  report_all status wrote is =
      reports_all (λ past. StandsFor replay settings past) (moments (started settings)) (TellsReport report settings) has_diagnostics reader_old reader_new writer_old writer_middle writer_new done
      its_last (half-is settings replay done.lines done.stands) its_text (report_tells report settings replay done.lines done.stands)
      replay.given done.stands.held (entries replay) refl status wrote is

-- all was written of a run that makes no report, and the replay in the end
unfoldable pub ends_at : (settings : Settings) (replay end : Replayed) (has_diagnostics : Bool) (status : Status) (reader_old reader_new : ReaderState) (writer_old writer_middle writer_new : WriterState)
    → HasFollowed (λ past. StandsFor replay settings past) (heap_notes settings) (Notes (heap_notes settings)) has_diagnostics reader_old reader_new writer_old writer_middle
    → Wrote writer_middle writer_new (end_text Nothing replay)
    → status ≡ (if has_diagnostics || (has_some (half replay.totals.lines replay.pending) || has_some (entries replay)) then Found else Clean)
    → end ≡ replay → replay.content.records ≡ settings.records
    → EndsAt settings status end reader_old reader_new writer_old writer_new
ends_at settings replay end has_diagnostics status reader_old reader_new writer_old writer_middle writer_new done wrote is kept records = record {
  reports = report_all Nothing settings replay has_diagnostics reader_old reader_new writer_old writer_middle writer_new done status wrote is;
  stands = subst (λ (r : Replayed). StandsFor r settings (reverse done.lines)) (sym kept) done.stands;
  records = ap (λ (r : Replayed). r.content.records) kept ∙ records;
}

-- and what its heap holds
pub replays_by : (settings : Settings) (status : Status) (replay : Replayed) (reader_old reader_new : ReaderState) (writer_old writer_new : WriterState)
    → EndsAt settings status replay reader_old reader_new writer_old writer_new → HoldsAtEnd settings status replay.content reader_old reader_new writer_old writer_new
replays_by settings status replay reader_old reader_new writer_old writer_new ends = record { reports = ends.reports; content_is = ends.stands.content_is }

-- a writer that took pieces, and was then asked to flush
pub flush_asked : (result : Result (Unit {0}) Failure) (old middle new : List Call) → HasTaken old middle → new ≡ flushed result ∷ middle → FlushWasAsked old new
flush_asked (Ok done) old middle new took told = inl (record { middle = middle; moved = took; then = told })
flush_asked (Err failure) old middle new took told = inr (record { middle = middle; moved = took; then = told })
