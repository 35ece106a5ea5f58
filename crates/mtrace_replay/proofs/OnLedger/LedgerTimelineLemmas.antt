-- The run that tells what is held over the lines of a log, without a heap.
use Rattle.std.proofs.Common.{◌≡◌, ◌<◌, ◌≤◌, ℕ, List, length, reverse, refl, sym, ap, subst, arith, ◌⊎◌, inl, inr}
use Rattle.std.specs.Prelude.{Result, Ok, Err, IfErr, IsErrOf}
use Rattle.std.proofs.lemmas.List.{length-reverse}
use Rattle.std.specs.List.{All}
use Rattle.mtrace_log.specs.Progress.{greatest_number}
use Rattle.mtrace_log.specs.Shown.{Bytes, ReaderState, WriterState}
use Rattle.mtrace_replay.specs.declared.ledger.point.LedgerPoint.{LedgerPoint}
use Rattle.mtrace_replay.specs.declared.ledger.replay.LedgerTotals.{LedgerTotals}
use Rattle.mtrace_replay.specs.declared.runs.status.Status.{Status}
use Rattle.mtrace_replay.specs.declared.runs.status.RunFault.{RunFault}
use Rattle.mtrace_replay.specs.declared.runs.status.RunFault.TheVariants.{Read, Write, OutOfMemory}
use Rattle.mtrace_replay.specs.Course.{Course, course, shown_before, shown_after}
use Rattle.mtrace_replay.specs.Moment.{ReadLine}
use Rattle.mtrace_replay.specs.Totals.{IsPeak}
use Rattle.mtrace_replay.specs.Texts.{ledger_timeline_text}
use Rattle.mtrace_replay.specs.Timeline.{AreTold}
use Rattle.mtrace_replay.specs.Again.{HasReadFirst, FailsAgain, Follows}
use Rattle.mtrace_replay.specs.LedgerReplay.{ledger_history}
use Rattle.mtrace_replay.specs.LedgerTimeline.{HasLedgerPoints, ledger_lines_of}
use Rattle.mtrace_replay.specs.RunLedgerTimeline.{TellsLedgerTimeline}
use Rattle.mtrace_replay.specs.RunSiteTimeline.{AreToldOf}
use Rattle.mtrace_replay.proofs.OnLedger.LedgerReplayLemmas.{length-ledger}
use Rattle.mtrace_replay.proofs.Told.ToldLines.{told_within, greatest_told}

-- where only the writer fails no memory was refused
pub never_memory : (result : Result Status RunFault) → IfErr result (λ fault. fault ≡ Write) → IsErrOf result OutOfMemory → ⊥
never_memory (Ok status) only is = cc
never_memory (Err fault) only is = cc

-- no other fault comes of a second reading
no_other : (fault : RunFault) → (fault ≡ Read) ⊎ (fault ≡ OutOfMemory) → (IsErrOf {T = Status} (Err fault) Read → ⊥) → (IsErrOf {T = Status} (Err fault) OutOfMemory → ⊥) → ⊥
no_other fault (inl is) not_read not_memory = not_read (ap Err is)
no_other fault (inr is) not_read not_memory = not_memory (ap Err is)

module _ {R W : Type 0} (Tells : Bytes → List ℕ → Type 0) (HasWorked Fails : ReaderState → ReaderState → Type 0)
    (reader : Course R ReaderState) (writes : W → WriterState) (writer : W) where
  -- what follows where the second reading stopped, but not for memory
  pub follows_stopped : (fault : RunFault) → (fault ≡ Read) ⊎ (fault ≡ OutOfMemory) → (IsErrOf {T = Status} (Err fault) Read → Fails (shown_before reader) (shown_after reader))
      → (IsErrOf {T = Status} (Err fault) OutOfMemory → ⊥) → Follows Tells HasWorked Fails (Err fault) reader (course writes writer writer)
  follows_stopped fault one fails not_memory = record {
    faults = elim one [
      | inl is ↦ inl is
      | inr is ↦ absurd (not_memory (ap Err is))
    ];
    told = λ not_read. absurd (no_other fault one not_read not_memory);
    reader_not_failed = λ not_read. absurd (no_other fault one not_read not_memory);
    read_fault = fails;
    nothing_put = λ is. refl;
  }

module _ (stretches : ℕ) (lines : List ReadLine) (totals : LedgerTotals) (numbers : List ℕ) (some : 0 < stretches) (count : totals.lines ≡ length lines)
    (peak : IsPeak (ledger_history lines) totals.peak_bytes totals.peak_line) (told : totals.peak_line ≤ totals.lines → AreTold totals.lines totals.peak_line stretches numbers) where
  within : totals.peak_line ≤ totals.lines
  within = omega (arith, peak.within, length-ledger (reverse lines), length-reverse lines, count)

  -- the numbers are those of the lines that are told, and no line behind the last is
  pub numbers_are : AreToldOf stretches lines numbers
  numbers_are = record {
    peak_bytes = totals.peak_bytes;
    peak_line = totals.peak_line;
    peak = peak;
    told = subst (λ n. AreTold n totals.peak_line stretches numbers) count (told within);
  }

  pub all_within : All (λ number. number ≤ length lines) numbers
  all_within = subst (λ n. All (λ number. number ≤ n) numbers) count (told_within totals.lines totals.peak_line stretches numbers some within (told within))

  -- the text of the points that were gathered
  pub tells_points : (points : List LedgerPoint) (whole left : Bytes) → HasLedgerPoints numbers points whole left → TellsLedgerTimeline stretches lines whole left (ledger_timeline_text points)
  tells_points points whole left has = record {
    peak_bytes = totals.peak_bytes;
    peak_line = totals.peak_line;
    peak = peak;
    again = has.again;
    read = subst (λ n. HasReadFirst n whole left has.again) count
        (subst (λ n. HasReadFirst n whole left has.again) (greatest_told totals.lines totals.peak_line stretches numbers some within (told within)) has.read);
    points = points;
    told = subst (λ n. AreTold n totals.peak_line stretches (ledger_lines_of points)) count (subst (AreTold totals.lines totals.peak_line stretches) (sym has.told) (told within));
    exact = has.exact;
    text_is = refl;
  }

  -- the reader failed before the last line
  pub fails_before_last : (reader_old reader_new : ReaderState) → totals.lines ≤ greatest_number
      → ((many : ℕ) → All (λ number. number ≤ many) numbers → many ≤ greatest_number → FailsAgain many reader_old reader_new) → FailsAgain (length lines) reader_old reader_new
  fails_before_last reader_old reader_new few fails =
      subst (λ n. FailsAgain n reader_old reader_new) count (fails totals.lines (told_within totals.lines totals.peak_line stretches numbers some within (told within)) few)
