-- A log is begun again, and what has changed behind its lines is told.
use Rattle.std.proofs.Common.{◌≡◌, ◌≤◌, ℕ, List, [], ◌∷◌, ◌++◌, length, take, sym, subst, arith, inl, inr, refl, Ok, Err}
use Rattle.std.specs.Prelude.{Result}
use Rattle.std.specs.List.{All}
use Rattle.std.proofs.lemmas.List.{take_all}
use Rattle.mtrace_log.specs.Output.{Begins, PutsAll}
use Rattle.mtrace_log.specs.Progress.{greatest_number, most_asked}
use Rattle.mtrace_log.specs.Shown.{Bytes, ReaderState, WriterState}
use Rattle.mtrace_log.specs.Trace.{HasTakenAndFailed}
use Rattle.mtrace_log.specs.declared.call.Call.TheVariants.{Began}
use Rattle.mtrace_log.proofs.Writing.{fails_on, puts_on}
use Rattle.mtrace_replay.specs.declared.runs.status.Status.{Status}
use Rattle.mtrace_replay.specs.declared.runs.status.RunFault.{RunFault}
use Rattle.mtrace_replay.specs.declared.runs.status.RunFault.TheVariants.{Read, Write, OutOfMemory, BadSettings, Image}
use Rattle.mtrace_replay.specs.Course.{Course, shown_before, shown_after}
use Rattle.mtrace_replay.specs.Moment.{ReadLine}
use Rattle.mtrace_replay.specs.Texts.{ledger_timeline_words}
use Rattle.mtrace_replay.specs.Again.{begun_again}
use Rattle.mtrace_replay.specs.RunSiteTimeline.{AreToldOf, SitesFollow, TellsFirst, TellsLines}
use Rattle.mtrace_replay.specs.SiteTimeline.{ChangesOf, FlushesTold, IsPutAgain, ReadsChanges, TellsAgain}
use Rattle.mtrace_replay.specs.Replaying.{no_line}
use Rattle.mtrace_replay.proofs.Running.AgainLemmas.{has_begun, read_first}
use Rattle.mtrace_replay.proofs.Running.ReplayingLemmas.{followed_start}

-- the words in front of what has changed
with_words : (numbers : List ℕ) (whole left : Bytes) (text : List ℕ) → ChangesOf numbers whole left text → TellsLines numbers whole left (ledger_timeline_words ++ text)
with_words numbers whole left text changes = record { again = changes.again; read = changes.read; changed = text; told = changes.told; text_is = refl }

-- the words alone, where no line was read
pub words_alone : (numbers : List ℕ) (reader : ReaderState) → TellsLines (take 0 numbers) reader.whole reader.whole (ledger_timeline_words ++ [])
words_alone numbers reader =
    let start = begun_again reader in
    let none : length no_line.held ≤ most_asked = omega arith in
    with_words [] reader.whole reader.whole [] (record { again = []; read = read_first (λ past. Unit {0}) no_line start start (followed_start (λ past. Unit {0}) start tt) none; told = refl })

module _ (numbers : List ℕ) (reader_old reader_new : ReaderState) (writer_old writer_middle writer_new : WriterState) (words : PutsAll ledger_timeline_words writer_old writer_middle) where
  begun : (result : Result (Unit {0}) RunFault) → ReadsChanges numbers result (begun_again reader_old) reader_new writer_middle writer_new → TellsAgain numbers result reader_old reader_new writer_old writer_new
  begun (Ok done) (text, changes, put, given) =
      (ledger_timeline_words ++ text, with_words numbers reader_old.whole reader_new.left text changes, puts_on writer_old writer_middle writer_new ledger_timeline_words text words put, given)
  begun (Err Read) (text, first, put, fails) = (
    ledger_timeline_words ++ text,
    inr (first.many, first.after, with_words _ reader_old.whole first.after text first.changes),
    puts_on writer_old writer_middle writer_new ledger_timeline_words text words put,
    λ many all within. inr (fails many all within),
  )
  begun (Err OutOfMemory) (text, first, put, given) = (
    ledger_timeline_words ++ text,
    inr (first.many, first.after, with_words _ reader_old.whole first.after text first.changes),
    puts_on writer_old writer_middle writer_new ledger_timeline_words text words put,
    inr given,
  )
  begun (Err Write) (text, first, put, given) = (
    ledger_timeline_words ++ text,
    inr (first.many, first.after, with_words _ reader_old.whole first.after text first.changes),
    fails_on writer_old writer_middle writer_new ledger_timeline_words text words put,
    inr given,
  )
  begun (Err BadSettings) reads = absurd reads
  begun (Err Image) reads = absurd reads

  -- the reader began again, the words were put, and then the lines were told
  pub told_again : (reader_middle : ReaderState) → reader_middle.left ≡ reader_old.whole → reader_middle.whole ≡ reader_old.whole → reader_middle.calls ≡ Began ∷ reader_old.calls
      → (result : Result (Unit {0}) RunFault) → ReadsChanges numbers result reader_middle reader_new writer_middle writer_new → TellsAgain numbers result reader_old reader_new writer_old writer_new
  told_again reader_middle left whole calls result reads =
      begun result (subst (λ (reader : ReaderState). ReadsChanges numbers result reader reader_new writer_middle writer_new) (has_begun reader_old reader_middle left whole calls) reads)

-- what follows the first reading, by the numbers of the lines that are told
module _ {R W : Type 0} (stretches : ℕ) (lines : List ReadLine) (numbers : List ℕ) (are : AreToldOf stretches lines numbers) (all : All (λ number. number ≤ length lines) numbers)
    (few : length lines ≤ greatest_number) (reader : Course R ReaderState) (writer : Course W WriterState) (status : Status) where
  first : (text : List ℕ) → IsPutAgain numbers (shown_before reader).whole text → TellsFirst stretches lines (shown_before reader).whole text
  first text (inl none) = inl none
  first text (inr (many, left, tells)) = inr (record { numbers = numbers; numbers_are = are; many = many; left = left; tells = tells })

  whole : (text : List ℕ) → TellsLines numbers (shown_before reader).whole (shown_after reader).left text → TellsFirst stretches lines (shown_before reader).whole text
  whole text tells = inr (record {
    numbers = numbers;
    numbers_are = are;
    many = length numbers;
    left = (shown_after reader).left;
    tells = subst (λ (ns : List ℕ). TellsLines ns (shown_before reader).whole (shown_after reader).left text) (sym (take_all (length numbers) numbers (omega arith))) tells;
  })

  abbrev Follows : Result Status RunFault → Type 0
  Follows result = SitesFollow stretches lines result reader writer

  done : (writer_middle : WriterState) (result : Result Status RunFault) → TellsAgain numbers (Ok tt) (shown_before reader) (shown_after reader) (shown_before writer) writer_middle
      → FlushesTold (Ok tt) status result writer_middle (shown_after writer) → Follows result
  done writer_middle (Ok answered) (text, tells, put, given) flushes =
      let flushed = flushes.2 (shown_before writer) text put in (text, record { numbers = numbers; numbers_are = are; tells = tells }, flushed.0, flushed.1, given)
  done writer_middle (Err fault) (text, tells, put, given) flushes =
      let flushed = flushes.2 (shown_before writer) text put in
      subst (λ (f : RunFault). Follows (Err f)) (sym flushes.1) (text, whole text tells, flushed.0, flushed.1, inr given)

  pub follows : (writer_middle : WriterState) (told : Result (Unit {0}) RunFault) (result : Result Status RunFault)
      → TellsAgain numbers told (shown_before reader) (shown_after reader) (shown_before writer) writer_middle → FlushesTold told status result writer_middle (shown_after writer) → Follows result
  follows writer_middle (Ok tt) result tells flushes = done writer_middle result tells flushes
  follows writer_middle (Err Write) result (text, put_again, put, untouched) flushes =
      let P : WriterState → Type 0 = λ after. HasTakenAndFailed (shown_before writer).calls after.calls in
      subst Follows (sym flushes.0) (
        text,
        first text put_again,
        subst (λ (after : WriterState). Begins (shown_before writer) after text) (sym flushes.1) put.begun,
        inl (subst P (sym flushes.1) put.failed),
        untouched,
      )
  follows writer_middle (Err Read) result (text, put_again, put, fails) flushes =
      let flushed = flushes.1 (shown_before writer) text put in
      subst Follows (sym flushes.0) (text, first text put_again, flushed.0, flushed.1, fails (length lines) all few)
  follows writer_middle (Err OutOfMemory) result (text, put_again, put, untouched) flushes =
      let flushed = flushes.1 (shown_before writer) text put in
      subst Follows (sym flushes.0) (text, first text put_again, flushed.0, flushed.1, untouched)
  follows writer_middle (Err BadSettings) result tells flushes = absurd tells
  follows writer_middle (Err Image) result tells flushes = absurd tells
