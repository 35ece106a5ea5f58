-- The words, the sums, then the sites.
use Rattle.std.proofs.Common.{List, ℕ, subst, ◌∙◌, ◌++◌, flat_map, codes}
use Rattle.mtrace_log.specs.Output.{PutsAll, PutsBeginning}
use Rattle.mtrace_log.proofs.Writing.{puts_on, puts_then, fails_on, fails_early, puts_exit}
use Rattle.mtrace_replay.specs.Texts.{pair_line, site_text}
use Rattle.mtrace_replay.proofs.held.sections.put_section.Goals as goal

pub returns-in_err-put_all : goal.returns-in_err-put_all
returns-in_err-put_all g c =
    let writes = g.W.Sink.shown in
    let line = pair_line (codes ": ") c.args.sum.blocks (codes " blocks, ") c.args.sum.bytes (codes " bytes.") in
    let lines = flat_map site_text c.args.sites.now in
    puts_exit c.from_residual.result _ c.from_residual.ensures.1 ((c.args.words.now ++ line) ++ lines) (writes c.args.writer.now) (writes c.put_all.new.writer)
    (fails_early (writes c.args.writer.now) (writes c.put_all.new.writer) (c.args.words.now ++ line) lines
    (fails_early (writes c.args.writer.now) (writes c.put_all.new.writer) c.args.words.now line c.in_err-put_all.ensures))

pub returns-in_err-put_all-2 : goal.returns-in_err-put_all-2
returns-in_err-put_all-2 g c =
    let writes = g.W.Sink.shown in
    let line = pair_line (codes ": ") c.args.sum.blocks (codes " blocks, ") c.args.sum.bytes (codes " bytes.") in
    let lines = flat_map site_text c.args.sites.now in
    let P : List ℕ → Type 0 = λ text. PutsBeginning text (writes c.put_all.new.writer) (writes c.put_all-2.new.writer) in
    puts_exit c.from_residual-in_err-put_all-2.result _ c.from_residual-in_err-put_all-2.ensures.1 ((c.args.words.now ++ line) ++ lines) (writes c.args.writer.now) (writes c.put_all-2.new.writer)
    (fails_early (writes c.args.writer.now) (writes c.put_all-2.new.writer) (c.args.words.now ++ line) lines
    (fails_on (writes c.args.writer.now) (writes c.put_all.new.writer) (writes c.put_all-2.new.writer) c.args.words.now line c.in_ok-put_all.ensures
    (subst P (c.as_slice.ensures.value ∙ c.section_text.ensures) c.in_err-put_all-2.ensures)))

pub returns : goal.returns
returns g c =
    let writes = g.W.Sink.shown in
    let line = pair_line (codes ": ") c.args.sum.blocks (codes " blocks, ") c.args.sum.bytes (codes " bytes.") in
    let P : List ℕ → Type 0 = λ text. PutsAll text (writes c.put_all.new.writer) (writes c.put_all-2.new.writer) in
    puts_then c.put_lines.result (writes c.args.writer.now) (writes c.put_all-2.new.writer) (writes c.put_lines.new.writer) (c.args.words.now ++ line) (flat_map site_text c.args.sites.now)
    (puts_on (writes c.args.writer.now) (writes c.put_all.new.writer) (writes c.put_all-2.new.writer) c.args.words.now line c.in_ok-put_all.ensures
    (subst P (c.as_slice.ensures.value ∙ c.section_text.ensures) c.in_ok-put_all-2.ensures))
    c.put_lines.ensures
