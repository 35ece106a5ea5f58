-- The text of the peak from the sums and the survey.
use Rattle.std.proofs.Common.{ℕ, List, sym, subst, ◌∙◌}
use Rattle.mtrace_log.specs.Output.{Puts}
use Rattle.mtrace_replay.specs.declared.runs.report.Report.{Report}
use Rattle.mtrace_replay.specs.Replay.{entries}
use Rattle.mtrace_replay.specs.Texts.{report_text}
use Rattle.mtrace_replay.proofs.OnHeap.RowLemmas.{peak_is}
use Rattle.mtrace_replay.proofs.runs.report.put_report.Goals as goal

pub returns-in-Peak : goal.returns-in-Peak
returns-in-Peak g c =
    let old = c.args.replay.now in
    let told = peak_is c.totals-totals.result old.totals c.survey-survey.result old.content c.totals-totals.ensures.totals c.survey-survey.ensures.survey in
    let P : List ℕ → Type 0 = λ text. Puts c.put_all.result text (g.W.Sink.shown c.args.writer.now) (g.W.Sink.shown c.put_all.new.writer) in
    let Q : Report → Type 0 = λ report. P (report_text report (entries old) old.totals old.content) in
    record {
      put = subst Q (sym c.in-Peak.is) (subst P (c.as_slice.ensures.value ∙ c.peak_text.ensures ∙ told) c.put_all.ensures);
      kept = λ nothing. absurd (cc);
    }
