-- The text of what has changed behind the lines of a log, line by line.
use Rattle.std.proofs.Common.{◌≡◌, ◌≤◌, ◌<◌, ℕ, suc, List, [], ◌∷◌, ◌++◌, length, map, take, reverse, refl, sym, ap, ◌∙◌, subst, arith, Err}
use Rattle.std.proofs.Math.ListN.{get_or}
use Rattle.std.proofs.Math.Seq.{take-suc}
use Rattle.std.proofs.lemmas.List.{length-map, length-reverse, reverse-append, take-append-le, take_all}
use Rattle.std.specs.List.{AllByRecursion}
use Rattle.mtrace_log.specs.Output.{PutsAll, PutsBeginning}
use Rattle.mtrace_log.specs.Progress.{Progress, most_asked}
use Rattle.mtrace_log.specs.Shown.{ReaderState, WriterState}
use Rattle.mtrace_log.specs.Trace.{HasNotFailed}
use Rattle.mtrace_log.proofs.Writing.{fails_on, puts_on}
use Rattle.mtrace_replay.specs.declared.runs.status.RunFault.{RunFault}
use Rattle.mtrace_replay.specs.declared.runs.status.RunFault.TheVariants.{Read, Write, OutOfMemory, BadSettings, Image}
use Rattle.mtrace_replay.specs.Entry.{Entry}
use Rattle.mtrace_replay.specs.Moment.{ReadLine}
use Rattle.mtrace_replay.specs.History.{entries_of}
use Rattle.mtrace_replay.specs.Changes.{AreChanges}
use Rattle.mtrace_replay.specs.Texts.{greatest, total_size}
use Rattle.mtrace_replay.specs.Again.{HasReadFirst}
use Rattle.mtrace_replay.specs.LedgerReplay.{unplaced}
use Rattle.mtrace_replay.specs.MarkedReplay.{MarkedReplayed, MarkedStandsFor, IsToldOf, point_of}
use Rattle.mtrace_replay.specs.Replaying.{IsFollowed, IsFollowedOn}
use Rattle.mtrace_replay.specs.RunSiteTimeline.{TellsChange, TellsChanges, last_told}
use Rattle.mtrace_replay.specs.SiteTimeline.{ChangesOf, PutsChanges, ReadsChanges}
use Rattle.mtrace_replay.proofs.OnLedger.LedgerReplayLemmas.{entries_unplaced}
use Rattle.mtrace_replay.proofs.Running.AgainLemmas.{read_first}

-- what a replay tells of its lines
pub change_of : (lines : List ReadLine) (replay : MarkedReplayed) (text : List ℕ) → MarkedStandsFor replay (reverse lines) → IsToldOf replay text → TellsChange replay.mark lines text
change_of lines replay text stands told =
    let all = map unplaced replay.all in
    record {
      point = point_of replay;
      exact = record {
        bytes = record { all = all; held = stands.held; measured = ap total_size (sym (entries_unplaced replay.all)) };
        blocks = record { all = all; held = stands.held; measured = sym (length-map replay.all unplaced) };
      };
      line_is = stands.lines_are ∙ length-reverse lines;
      held_before = stands.before;
      before_are = stands.held_before;
      held_now = all;
      now_are = stands.held;
      sites = told.sites;
      changes = subst (λ (now : List Entry). AreChanges (entries_of stands.before) now told.sites) (sym (entries_unplaced replay.all)) (told.changes (entries_of stands.before) stands.at_mark);
      text_is = told.text_is;
    }

-- lines behind those that are told don't change the text
changes_stay : (lines more : List ReadLine) (numbers text : List ℕ) → AllByRecursion (λ number. number ≤ length lines) numbers → TellsChanges lines numbers text
    → TellsChanges (lines ++ more) numbers text
changes_stay lines more [] text within told = told
changes_stay lines more (number ∷ numbers) text within told = record {
  earlier = told.earlier;
  told = changes_stay lines more numbers told.earlier within.1 told.told;
  its = told.its;
  change = subst (λ (first : List ReadLine). TellsChange (last_told numbers) first told.its) (sym (take-append-le number lines more within.0)) told.change;
  text_is = told.text_is;
}

-- The lines so far were read, and this is the text behind those of these numbers, of which the latest comes first.
pub record HasTold (numbers text : List ℕ) (Stands : List ReadLine → Type 0) (progress : Progress) (start reader : ReaderState) : Type 0 where
  pub now : IsFollowed Stands progress start reader
  pub told : TellsChanges now.lines numbers text
  pub within : AllByRecursion (λ number. number ≤ progress.count) numbers

within_map : (least most : ℕ) (numbers : List ℕ) → least ≤ most → AllByRecursion (λ number. number ≤ least) numbers → AllByRecursion (λ number. number ≤ most) numbers
within_map least most [] up within = tt
within_map least most (number ∷ numbers) up within = (omega (arith, up, within.0), within_map least most numbers up within.1)

-- lines more, and the text behind them
told_more : (numbers text : List ℕ) (number : ℕ) (its : List ℕ) (Stood Seen Stands : List ReadLine → Type 0) (old new : Progress) (start before after : ReaderState)
    → (so_far : HasTold numbers text Stood old start before) (next : IsFollowedOn Seen so_far.now.lines new start after) → number ≡ new.count → old.count ≤ new.count
    → TellsChange (last_told numbers) next.now.lines its → ((past : List ReadLine) → Seen past → Stands past) → HasTold (number ∷ numbers) (text ++ its) Stands new start after
told_more numbers text number its Stood Seen Stands old new start before after so_far next number_is up change stands =
    let lines = next.now.lines in
    let few = within_map old.count (length so_far.now.lines) numbers (omega (arith, so_far.now.count)) so_far.within in
    record {
      now = record { lines = lines; count = next.now.count; no_fault = next.now.no_fault; read = next.now.read; stands = stands (reverse lines) next.now.stands };
      told = record {
        earlier = text;
        told = subst (λ (all : List ReadLine). TellsChanges all numbers text) (sym next.behind) (changes_stay so_far.now.lines next.more numbers text few so_far.told);
        its = its;
        change = subst (λ (first : List ReadLine). TellsChange (last_told numbers) first its) (sym (take_all number lines (omega (arith, number_is, next.now.count)))) change;
        text_is = refl;
      };
      within = (omega (arith, number_is), within_map old.count new.count numbers up so_far.within);
    }

-- the same, of which the text is put: the numbers stand with the first one first
pub record IsTelling (numbers : List ℕ) (replay : MarkedReplayed) (progress : Progress) (start reader : ReaderState) (writer_old writer_new : WriterState) : Type 0 where
  pub text : List ℕ
  pub has : HasTold (reverse numbers) text (MarkedStandsFor replay) progress start reader
  pub put : PutsAll text writer_old writer_new

pub numbers_more : (numbers : List ℕ) (index : ℕ) → index < length numbers → reverse (take (suc index) numbers) ≡ get_or numbers index 0 ∷ reverse (take index numbers)
numbers_more numbers index inside = ap reverse (take-suc numbers index 0 inside) ∙ reverse-append (take index numbers) (get_or numbers index 0 ∷ [])

-- one number more is told
module _ (numbers : List ℕ) (index : ℕ) (inside : index < length numbers) (replay read : MarkedReplayed) (old new : Progress) (start before after : ReaderState) (writer_old writer_middle : WriterState)
    (so_far : IsTelling (take index numbers) replay old start before writer_old writer_middle) (next : IsFollowedOn (MarkedStandsFor read) so_far.has.now.lines new start after)
    (reached : new.count ≡ get_or numbers index 0) (up : old.count ≤ new.count) (mark : read.mark ≡ last_told (reverse (take index numbers))) (its : List ℕ) (told : IsToldOf read its) where
  its_change : TellsChange (last_told (reverse (take index numbers))) next.now.lines its
  its_change = subst (λ n. TellsChange n next.now.lines its) mark (change_of next.now.lines read its next.now.stands told)

  told_on : (Stands : List ReadLine → Type 0) → ((past : List ReadLine) → MarkedStandsFor read past → Stands past) → HasTold (reverse (take (suc index) numbers)) (so_far.text ++ its) Stands new start after
  told_on Stands stands =
      subst (λ (ns : List ℕ). HasTold ns (so_far.text ++ its) Stands new start after) (sym (numbers_more numbers index inside))
      (told_more (reverse (take index numbers)) so_far.text (get_or numbers index 0) its (MarkedStandsFor replay) (MarkedStandsFor read) Stands old new start before after so_far.has next (sym reached) up its_change stands)

  pub telling_more : (marked : MarkedReplayed) (writer_new : WriterState) → ((past : List ReadLine) → MarkedStandsFor read past → MarkedStandsFor marked past) → PutsAll its writer_middle writer_new
      → IsTelling (take (suc index) numbers) marked new start after writer_old writer_new
  telling_more marked writer_new stands put = record {
    text = so_far.text ++ its;
    has = told_on (MarkedStandsFor marked) stands;
    put = puts_on writer_old writer_middle writer_new so_far.text its so_far.put put;
  }

  -- the writer failed there
  pub telling_fails : (writer_new : WriterState) → length new.held ≤ most_asked → greatest (take (suc index) numbers) ≡ new.count → PutsBeginning its writer_middle writer_new → HasNotFailed start.calls after.calls
      → ReadsChanges numbers (Err Write) start after writer_old writer_new
  telling_fails writer_new few last part given =
      let has = told_on (MarkedStandsFor read) (λ past stands. stands) in (
        so_far.text ++ its,
        record {
          many = suc index;
          after = after.left;
          changes = record {
            again = has.now.lines;
            read = subst (λ n. HasReadFirst n start.left after.left has.now.lines) (sym last) (read_first (MarkedStandsFor read) new start after has.now few);
            told = has.told;
          };
        },
        fails_on writer_old writer_middle writer_new so_far.text its so_far.put part,
        given,
      )

-- what is told so far is the text behind the first of the numbers
pub first_changes : (numbers : List ℕ) (index : ℕ) (replay : MarkedReplayed) (progress : Progress) (start reader : ReaderState) (writer_old writer_new : WriterState)
    → (so_far : IsTelling (take index numbers) replay progress start reader writer_old writer_new) → length progress.held ≤ most_asked → progress.count ≡ greatest (take index numbers)
    → ChangesOf (take index numbers) start.left reader.left so_far.text
first_changes numbers index replay progress start reader writer_old writer_new so_far few last = record {
  again = so_far.has.now.lines;
  read = subst (λ n. HasReadFirst n start.left reader.left so_far.has.now.lines) last (read_first (MarkedStandsFor replay) progress start reader so_far.has.now few);
  told = so_far.has.told;
}

-- what has changed wasn't put behind one line more
module _ (numbers : List ℕ) (index : ℕ) (inside : index < length numbers) (replay read : MarkedReplayed) (old new : Progress) (start before after : ReaderState) (writer_old writer_middle : WriterState)
    (so_far : IsTelling (take index numbers) replay old start before writer_old writer_middle) (next : IsFollowedOn (MarkedStandsFor read) so_far.has.now.lines new start after)
    (reached : new.count ≡ get_or numbers index 0) (up : old.count ≤ new.count) (mark : read.mark ≡ last_told (reverse (take index numbers)))
    (few : length old.held ≤ most_asked) (last : old.count ≡ greatest (take index numbers)) (still_few : length new.held ≤ most_asked) (later : greatest (take (suc index) numbers) ≡ new.count)
    (given : HasNotFailed start.calls after.calls) where
  pub put_fails : (fault : RunFault) (writer_new : WriterState) → PutsChanges read (Err fault) writer_middle writer_new → ReadsChanges numbers (Err fault) start after writer_old writer_new
  put_fails Write writer_new put =
      telling_fails numbers index inside replay read old new start before after writer_old writer_middle so_far next reached up mark put.0 put.1 writer_new still_few later put.2 given
  put_fails OutOfMemory writer_new put = (
    so_far.text,
    record { many = index; after = before.left; changes = first_changes numbers index replay old start before writer_old writer_middle so_far few last },
    subst (λ (writer : WriterState). PutsAll so_far.text writer_old writer) (sym put) so_far.put,
    given,
  )
  put_fails Read writer_new put = absurd put
  put_fails BadSettings writer_new put = absurd put
  put_fails Image writer_new put = absurd put
