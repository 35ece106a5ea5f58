-- Both sections, then how many lines were refused.
use Rattle.std.proofs.Common.{List, ℕ, subst, ◌∙◌}
use Rattle.mtrace_log.specs.Output.{Puts}
use Rattle.mtrace_log.proofs.Writing.{puts_then, fails_early, puts_exit}
use Rattle.mtrace_replay.specs.Texts.{both_sections, refused_line}
use Rattle.mtrace_replay.proofs.runs.sites.put_told.Goals as goal

pub returns-in_err-put_both : goal.returns-in_err-put_both
returns-in_err-put_both g c =
    let writes = g.W.Sink.shown in
    puts_exit c.from_residual.result _ c.from_residual.ensures.1 _ (writes c.args.writer.now) (writes c.put_both.new.writer)
    (fails_early (writes c.args.writer.now) (writes c.put_both.new.writer)
    (both_sections c.args.totals.peak_line c.args.peak_sum.blocks c.args.peak_sum.bytes c.args.peak_sites.now c.args.end_sum.blocks c.args.end_sum.bytes c.args.end_sites.now)
    (refused_line c.args.totals.refused) c.in_err-put_both.ensures)

pub returns : goal.returns
returns g c =
    let writes = g.W.Sink.shown in
    let Q : List ℕ → Type 0 = λ text. Puts c.put_all.result text (writes c.put_both.new.writer) (writes c.put_all.new.writer) in
    puts_then c.put_all.result (writes c.args.writer.now) (writes c.put_both.new.writer) (writes c.put_all.new.writer)
    (both_sections c.args.totals.peak_line c.args.peak_sum.blocks c.args.peak_sum.bytes c.args.peak_sites.now c.args.end_sum.blocks c.args.end_sum.bytes c.args.end_sites.now)
    (refused_line c.args.totals.refused) c.in_ok-put_both.ensures (subst Q (c.as_slice.ensures.value ∙ c.refused_text.ensures) c.put_all.ensures)
