-- All calls together, and then a line for each caller.
use Rattle.std.proofs.Common.{List, ℕ, subst, ◌∙◌, ◌++◌, flat_map}
use Rattle.mtrace_log.specs.Output.{PutsAll, PutsBeginning}
use Rattle.mtrace_log.proofs.Writing.{puts_then, fails_early, puts_exit}
use Rattle.mtrace_replay.specs.Texts.{calls_line, caller_text}
use Rattle.mtrace_replay.proofs.held.sections.put_callers.Goals as goal

pub returns-in_err-put_all : goal.returns-in_err-put_all
returns-in_err-put_all g c =
    let writes = g.W.Sink.shown in
    let line = calls_line c.args.total in
    let lines = flat_map caller_text c.args.callers.now in
    puts_exit c.from_residual.result _ c.from_residual.ensures.1 (line ++ lines) (writes c.args.writer.now) (writes c.put_all.new.writer)
    (fails_early (writes c.args.writer.now) (writes c.put_all.new.writer) line lines
    (subst (λ (text : List ℕ). PutsBeginning text (writes c.args.writer.now) (writes c.put_all.new.writer)) (c.as_slice.ensures.value ∙ c.calls_text.ensures) c.in_err-put_all.ensures))

pub returns : goal.returns
returns g c =
    let writes = g.W.Sink.shown in
    let P : List ℕ → Type 0 = λ text. PutsAll text (writes c.args.writer.now) (writes c.put_all.new.writer) in
    puts_then c.put_lines.result (writes c.args.writer.now) (writes c.put_all.new.writer) (writes c.put_lines.new.writer) (calls_line c.args.total) (flat_map caller_text c.args.callers.now)
    (subst P (c.as_slice.ensures.value ∙ c.calls_text.ensures) c.in_ok-put_all.ensures) c.put_lines.ensures
