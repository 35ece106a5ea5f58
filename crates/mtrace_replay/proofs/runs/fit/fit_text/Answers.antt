-- The greatest pool refuses lines, or the sizes are tried.
use Rattle.std.proofs.Common.{◌≡◌, ◌<◌, ℕ, List, ◌++◌, length, sym, ap, ◌∙◌, subst, arith}
use Rattle.mtrace_replay.specs.declared.heap.totals.Totals.{Totals}
use Rattle.mtrace_replay.specs.declared.runs.fitted.Fitted.{Fitted}
use Rattle.mtrace_replay.specs.Fit.{enough_records, step_of, first_number, fitted}
use Rattle.mtrace_replay.specs.Texts.{greatest_line, most_line, fitted_lines, untried_lines, refused_line}
use Rattle.mtrace_replay.specs.RunFit.{TriesRanges, TellsFit, HasBegun}
use Rattle.mtrace_replay.proofs.Running.TriedLemmas.{nothing_begun}
use Rattle.mtrace_replay.proofs.Running.FitLemmas.{tells_untried, tells_fitted}
use Rattle.mtrace_replay.proofs.runs.fit.fit_text.Goals as goal

pub returns-then-totals-gt0 : goal.returns-then-totals-gt0
returns-then-totals-gt0 g c = record {
  read = tt;
  tells = (
    0,
    λ lines stands are.
        let replay = c.args.tried.now.replay in
        let needs = c.args.needs in
        let T : List ℕ → Type 0 = λ text. TellsFit c.args.tried.now.front c.args.step lines (g.R.Source.shown c.args.reader.now).whole 0 text in
        let some : 0 < c.totals-totals.result.refused = c.if-totals-gt0.true in
        let same = c.untried_text.ensures
        ∙ ap (λ (totals : Totals). greatest_line totals ++ most_line needs.most ++ untried_lines ++ refused_line totals.refused) c.totals-totals.ensures.totals in
        subst T (sym same)
        (tells_untried c.args.tried.now.front c.args.step lines (g.R.Source.shown c.args.reader.now).whole replay.totals stands.totals needs are (omega (arith, some, ap (λ (totals : Totals). totals.refused) c.totals-totals.ensures.totals))),
    nothing_begun (g.R.Source.shown c.args.reader.now).calls,
  );
}

pub returns : goal.returns
returns g c = record {
  read = tt;
  tells = (
    length c.in_ok-fitted.ensures.tells.1.1.0,
    λ lines stands are.
        let replay = c.args.tried.now.replay in
        let needs = c.args.needs in
        let whole = (g.R.Source.shown c.args.reader.now).whole in
        let tried = c.in_ok-fitted.ensures.tells.1.1 in
        let T : List ℕ → Type 0 = λ text. TellsFit c.args.tried.now.front c.args.step lines whole (length tried.0) text in
        let peak_is = ap (λ (totals : Totals). totals.peak_bytes) c.totals-totals.ensures.totals in
        let records_are : c.enough_records.result ≡ enough_records needs.most = c.enough_records.ensures.value in
        let step_is : c.of.result ≡ step_of c.args.step replay.totals.peak_bytes = c.of.ensures ∙ ap (step_of c.args.step) peak_is in
        let A : ℕ → ℕ → ℕ → ℕ → Type 0 = λ records many step peak. TriesRanges c.args.tried.now.front records many step (first_number step peak) whole tried.0 in
        let lines_are = ap (λ (totals : Totals). totals.lines) c.totals-totals.ensures.totals in
        let tries : A (enough_records needs.most) replay.totals.lines (step_of c.args.step replay.totals.peak_bytes) replay.totals.peak_bytes =
        subst (λ records. A records replay.totals.lines (step_of c.args.step replay.totals.peak_bytes) replay.totals.peak_bytes) records_are
        (subst (λ many. A c.enough_records.result many (step_of c.args.step replay.totals.peak_bytes) replay.totals.peak_bytes) lines_are
        (subst (λ step. A c.enough_records.result c.totals-totals.result.lines step replay.totals.peak_bytes) step_is
        (subst (λ peak. A c.enough_records.result c.totals-totals.result.lines c.of.result peak) peak_is tried.1))) in
        let same = c.fitted_text.ensures
        ∙ ap (λ (totals : Totals). greatest_line totals ++ most_line needs.most ++ fitted_lines c.enough_records.result c.in_ok-fitted.fitted c.sure_pool-sure.result) c.totals-totals.ensures.totals
        ∙ ap (λ records. greatest_line replay.totals ++ most_line needs.most ++ fitted_lines records c.in_ok-fitted.fitted c.sure_pool-sure.result) records_are
        ∙ ap (λ (all : Fitted). greatest_line replay.totals ++ most_line needs.most ++ fitted_lines (enough_records needs.most) all c.sure_pool-sure.result) tried.2
        ∙ ap (λ sure. greatest_line replay.totals ++ most_line needs.most ++ fitted_lines (enough_records needs.most) (fitted tried.0) sure) c.sure_pool-sure.ensures in
        subst T (sym same)
        (tells_fitted c.args.tried.now.front c.args.step lines whole replay.totals stands.totals needs are (omega (arith, c.if-totals-gt0.false, ap (λ (totals : Totals). totals.refused) c.totals-totals.ensures.totals)) tried.0 tries),
    (let told = c.in_ok-fitted.ensures.tells in
        let same : told.0 ≡ length told.1.1.0 = told.1.0 ∙ ap (λ (f : Fitted). f.tried) told.1.1.2 in
        subst (λ times. HasBegun times (g.R.Source.shown c.args.reader.now).calls (g.R.Source.shown c.try_sizes.new.reader).calls) same told.2),
  );
}
