-- A replay with a mark stands for its lines.
use Rattle.std.proofs.Common.{◌≡◌, ℕ, suc, List, [], ◌∷◌, length, map, None, refl, sym, ap, ◌∙◌, subst, arith}
use Rattle.mtrace_replay.specs.Entry.{Entry}
use Rattle.mtrace_replay.specs.Moment.{ReadLine, Given}
use Rattle.mtrace_replay.specs.History.{AreHeld, entries_of, old_address}
use Rattle.mtrace_replay.specs.Totals.{first_moments}
use Rattle.mtrace_replay.specs.Sites.{AreTallied}
use Rattle.mtrace_replay.specs.LedgerReplay.{ledger_moments, unplaced}
use Rattle.mtrace_replay.specs.MarkedReplay.{MarkedReplayed, MarkedStandsFor, MarksLast}
use Rattle.mtrace_replay.proofs.History.FoundLemmas.{none_held}
use Rattle.mtrace_replay.proofs.History.TotalsLemmas.{first_moments_all, first_moments_before}
use Rattle.mtrace_replay.proofs.OnLedger.LedgerReplayLemmas.{entries_unplaced, length-ledger}

-- nothing is held, nor was at the mark
abbrev pub none_marked : MarkedReplayed
none_marked = record { all = []; at_mark = []; mark = 0; lines = 0; pending = None }

pub none_stands : MarkedStandsFor none_marked []
unfolding ledger_moments
none_stands = record {
  lines_are = refl;
  pending_is = refl;
  held = none_held;
  within = omega arith;
  before = [];
  held_before = none_held;
  at_mark = record { one = λ p. omega arith; blocks = λ p. refl; bytes = λ p. refl };
}

-- what was held behind all lines, with the mark at the last one
held_last : (all : List Given) (past : List ReadLine) (mark : ℕ) → mark ≡ length past → AreHeld all (ledger_moments past) → AreHeld all (first_moments mark (ledger_moments past))
held_last all past mark is are =
    subst (AreHeld all) (sym (ap (λ n. first_moments n (ledger_moments past)) (is ∙ sym (length-ledger past)) ∙ first_moments_all (ledger_moments past))) are

pub marked_last : (old new : MarkedReplayed) → new.all ≡ old.all → new.lines ≡ old.lines → new.pending ≡ old.pending → new.mark ≡ old.lines → AreTallied old.all new.at_mark → MarksLast old new
marked_last old new all lines pending mark tallied = record {
  stands = λ past stands. record {
    lines_are = lines ∙ stands.lines_are;
    pending_is = pending ∙ stands.pending_is;
    held = subst (λ (es : List Entry). AreHeld (map unplaced es) (ledger_moments past)) (sym all) stands.held;
    within = omega (arith, mark, stands.lines_are);
    before = map unplaced old.all;
    held_before = held_last (map unplaced old.all) past new.mark (mark ∙ stands.lines_are) stands.held;
    at_mark = subst (λ (es : List Entry). AreTallied es new.at_mark) (sym (entries_unplaced old.all)) tallied;
  };
  mark = mark;
  lines = lines;
}

-- one line more, behind which this is held
pub stands_behind : (old new : MarkedReplayed) (past : List ReadLine) (line : ReadLine) → MarkedStandsFor old past → AreHeld (map unplaced new.all) (ledger_moments (line ∷ past))
    → new.lines ≡ suc (length past) → new.pending ≡ old_address line → new.mark ≡ old.mark → new.at_mark ≡ old.at_mark → MarkedStandsFor new (line ∷ past)
unfolding ledger_moments
stands_behind old new past line stands held lines pending mark at_mark =
    let same : first_moments new.mark (ledger_moments (line ∷ past)) ≡ first_moments old.mark (ledger_moments past) =
    ap (λ n. first_moments n (ledger_moments (line ∷ past))) mark ∙ first_moments_before old.mark _ (ledger_moments past) (omega (arith, stands.within, length-ledger past)) in
    record {
      lines_are = lines;
      pending_is = pending;
      held = held;
      within = omega (arith, mark, stands.within);
      before = stands.before;
      held_before = subst (AreHeld stands.before) (sym same) stands.held_before;
      at_mark = subst (AreTallied (entries_of stands.before)) (sym at_mark) stands.at_mark;
    }
