-- The section of the peak, then that of the end.
use Rattle.std.proofs.Common.{List, ℕ, subst, ◌∙◌, ◌++◌}
use Rattle.mtrace_log.specs.Output.{PutsAll, PutsBeginning}
use Rattle.mtrace_log.proofs.Writing.{puts_then, fails_early, puts_exit}
use Rattle.mtrace_replay.specs.Texts.{section, peak_words, end_words}
use Rattle.mtrace_replay.proofs.held.sections.put_both.Goals as goal

pub returns-in_err-put_section : goal.returns-in_err-put_section
returns-in_err-put_section g c =
    let writes = g.W.Sink.shown in
    let first : List ℕ → List ℕ = λ words. section words c.args.peak_sum.blocks c.args.peak_sum.bytes c.args.peak_sites.now in
    let second = section end_words c.args.end_sum.blocks c.args.end_sum.bytes c.args.end_sites.now in
    let P : List ℕ → Type 0 = λ words. PutsBeginning (first words) (writes c.args.writer.now) (writes c.put_section.new.writer) in
    puts_exit c.from_residual.result _ c.from_residual.ensures.1 (first (peak_words c.args.peak_line) ++ second) (writes c.args.writer.now) (writes c.put_section.new.writer)
    (fails_early (writes c.args.writer.now) (writes c.put_section.new.writer) (first (peak_words c.args.peak_line)) second
    (subst P (c.as_slice.ensures.value ∙ c.peak_words.ensures) c.in_err-put_section.ensures))

pub returns : goal.returns
returns g c =
    let writes = g.W.Sink.shown in
    let first : List ℕ → List ℕ = λ words. section words c.args.peak_sum.blocks c.args.peak_sum.bytes c.args.peak_sites.now in
    let second = section end_words c.args.end_sum.blocks c.args.end_sum.bytes c.args.end_sites.now in
    let P : List ℕ → Type 0 = λ words. PutsAll (first words) (writes c.args.writer.now) (writes c.put_section.new.writer) in
    puts_then c.put_section-2.result (writes c.args.writer.now) (writes c.put_section.new.writer) (writes c.put_section-2.new.writer) (first (peak_words c.args.peak_line)) second
    (subst P (c.as_slice.ensures.value ∙ c.peak_words.ensures) c.in_ok-put_section.ensures) c.put_section-2.ensures
