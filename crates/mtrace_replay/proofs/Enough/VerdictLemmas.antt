-- A size serves a text that is told where no line of it is refused.
use Rattle.std.proofs.Common.{◌≡◌, ℕ, ◌≤◌, Bool, true, false, cond, List, [], ◌∷◌, ◌++◌, length, take, drop, Some, refl, sym, ap, ◌∙◌, arith, append_assoc, append-nil}
use Rattle.std.specs.Prelude.{◌==◌, count_by}
use Rattle.std.proofs.lemmas.List.{take-append-drop, map-append}
use Rattle.std.proofs.lemmas.List.Sums.{sum_by-cons}
use Rattle.std.proofs.lemmas.Bool.{eq-eqb, ne_eqb}
use Rattle.mtrace_log.specs.HasRead.{HasReadAll}
use Rattle.mtrace_replay.specs.declared.heap.settings.Settings.{Settings}
use Rattle.mtrace_replay.specs.Moment.{ReadLine, Moment}
use Rattle.mtrace_replay.specs.History.{history}
use Rattle.mtrace_replay.specs.Totals.{is_refused}
use Rattle.mtrace_log.specs.Shown.{Bytes}
use Rattle.mtrace_replay.specs.RunFit.{refusals, IsTried}
use Rattle.mtrace_replay.specs.Fronted.{fronted_line, fronted}
use Rattle.mtrace_replay.proofs.Running.RunLemmas.{next_moment, history-more}
use Rattle.mtrace_replay.proofs.Running.ToldLemmas.{told_first}

take_all : (lines : List ReadLine) → take (length lines) lines ≡ lines
take_all [] = refl
take_all (line ∷ lines) = ap (λ rest. line ∷ rest) (take_all lines)

-- no fewer lines are refused where more come behind them
refusals-more : (settings : Settings) (lines : List ReadLine) (line : ReadLine) → refusals settings lines ≤ refusals settings (lines ++ line ∷ [])
refusals-more settings lines line =
    omega (
      arith,
      ap (count_by is_refused) (history-more settings lines line),
      sum_by-cons (λ (m : Moment). cond (is_refused m) 1 0) (next_moment settings lines line) (history settings lines),
    )

refusals-append : (settings : Settings) (lines more : List ReadLine) → refusals settings lines ≤ refusals settings (lines ++ more)
refusals-append settings lines [] = omega (arith, ap (refusals settings) (append-nil lines))
refusals-append settings lines (line ∷ more) =
    omega (arith, refusals-more settings lines line, refusals-append settings (lines ++ line ∷ []) more, ap (refusals settings) (append_assoc lines (line ∷ []) more))

refusals-take : (front : ℕ) (settings : Settings) (n : ℕ) (lines : List ReadLine) → refusals settings (fronted front (take n lines)) ≤ refusals settings (fronted front lines)
refusals-take front settings n lines =
    omega (
      arith,
      refusals-append settings (fronted front (take n lines)) (fronted front (drop n lines)),
      ap (refusals settings) (sym (map-append (fronted_line front) (take n lines) (drop n lines)) ∙ ap (fronted front) (take-append-drop n lines)),
    )

module _ (front : ℕ) (settings : Settings) (text : List ℕ) (middle left : Bytes) (lines : List ReadLine) (all : HasReadAll (Some text) middle lines) where
  pub told_verdict : (serves : Bool) → IsTried front settings (length lines) serves (Some text) left → serves ≡ (refusals settings (fronted front lines) == 0)
  told_verdict true (first, read, none) =
      let same : first ≡ lines = told_first text middle left (length lines) lines first all read ∙ take_all lines in
      sym (eq-eqb (refusals settings (fronted front lines)) 0 (sym (ap (λ all. refusals settings (fronted front all)) same) ∙ none))
  told_verdict false (first, many, few, read, some) =
      let same : first ≡ take many lines = told_first text middle left many lines first all read in
      sym (ne_eqb (refusals settings (fronted front lines)) 0 (λ none. omega (arith, none, some, ap (λ all. refusals settings (fronted front all)) same, refusals-take front settings many lines)))
