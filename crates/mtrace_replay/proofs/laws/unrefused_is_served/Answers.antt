-- What is wrong, what is held and the sums are the same where no line is refused.
use Rattle.std.proofs.Common.{◌≡◌, List, ◌++◌, take, drop, reverse, sym, ap, ◌∙◌, subst, ℕ}
use Rattle.std.specs.Prelude.{count_by}
use Rattle.std.proofs.lemmas.List.{reverse-append, take-append-drop}
use Rattle.mtrace_replay.specs.Started.{started}
use Rattle.mtrace_replay.specs.Moment.{ReadLine, Moment}
use Rattle.mtrace_replay.specs.History.{history, moments}
use Rattle.mtrace_replay.specs.Totals.{is_refused}
use Rattle.mtrace_replay.specs.LedgerTimeline.{IsLedgerPoint}
use Rattle.mtrace_replay.proofs.Enough.UnrefusedLemmas.{ledger_alike, none_refused_before, points_alike}
use Rattle.mtrace_replay.proofs.Enough.UnrefusedTexts.{same_diagnostics, same_held, same_first, same_sums}
use Rattle.mtrace_replay.proofs.laws.unrefused_is_served.Goals as goal

pub returns-clause-diagnostics : goal.returns-clause-diagnostics
returns-clause-diagnostics c = same_diagnostics

pub returns-clause-held : goal.returns-clause-held
returns-clause-held c = λ settings lines all other none is as_well. same_held settings lines none all other is as_well

pub returns-clause-first : goal.returns-clause-first
returns-clause-first c = λ settings lines many all other none is as_well. same_first settings lines none many all other is as_well

pub returns-clause-sums : goal.returns-clause-sums
returns-clause-sums c = λ settings lines totals sums none are told. same_sums settings lines none totals sums are told

-- the lines are the first ones, and those behind them
cut : (many : ℕ) (lines : List ReadLine) → reverse (drop many lines) ++ reverse (take many lines) ≡ reverse lines
cut many lines = sym (reverse-append (take many lines) (drop many lines)) ∙ ap reverse (take-append-drop many lines)

pub returns-clause-points : goal.returns-clause-points
returns-clause-points c = λ settings lines many point other none is told.
    let first = take many lines in
    let whole = subst (λ (past : List ReadLine). count_by is_refused (moments (started settings) past) ≡ 0) (sym (cut many lines)) none in
    let before = none_refused_before (started settings) (reverse (drop many lines)) (reverse first) whole in
    points_alike (started settings) (history settings first) point other is
    (subst (λ (past : List Moment). IsLedgerPoint past other) (ledger_alike (started settings) (reverse first) before) told)
