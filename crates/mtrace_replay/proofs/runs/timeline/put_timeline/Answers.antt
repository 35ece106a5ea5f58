-- The words, the points, then how many lines were refused.
use Rattle.std.proofs.Common.{List, ℕ, subst, ◌∙◌, ◌++◌, flat_map}
use Rattle.mtrace_log.specs.Output.{Puts}
use Rattle.mtrace_log.proofs.Writing.{puts_on, puts_then, fails_on, fails_early, puts_exit}
use Rattle.mtrace_replay.specs.Texts.{timeline_words, point_text, refused_line}
use Rattle.mtrace_replay.proofs.runs.timeline.put_timeline.Goals as goal

pub returns-in_err-put_all : goal.returns-in_err-put_all
returns-in_err-put_all g c =
    let writes = g.W.Sink.shown in
    let second = flat_map point_text c.args.points.now in
    let third = refused_line c.args.refused in
    puts_exit c.from_residual.result _ c.from_residual.ensures.1 ((timeline_words ++ second) ++ third) (writes c.args.writer.now) (writes c.put_all.new.writer)
    (fails_early (writes c.args.writer.now) (writes c.put_all.new.writer) (timeline_words ++ second) third
    (fails_early (writes c.args.writer.now) (writes c.put_all.new.writer) timeline_words second c.in_err-put_all.ensures))

pub returns-in_err-put_lines : goal.returns-in_err-put_lines
returns-in_err-put_lines g c =
    let writes = g.W.Sink.shown in
    let second = flat_map point_text c.args.points.now in
    let third = refused_line c.args.refused in
    puts_exit c.from_residual-in_err-put_lines.result _ c.from_residual-in_err-put_lines.ensures.1 ((timeline_words ++ second) ++ third) (writes c.args.writer.now) (writes c.put_lines.new.writer)
    (fails_early (writes c.args.writer.now) (writes c.put_lines.new.writer) (timeline_words ++ second) third
    (fails_on (writes c.args.writer.now) (writes c.put_all.new.writer) (writes c.put_lines.new.writer) timeline_words second c.in_ok-put_all.ensures c.in_err-put_lines.ensures))

pub returns : goal.returns
returns g c =
    let writes = g.W.Sink.shown in
    let second = flat_map point_text c.args.points.now in
    let P : List ℕ → Type 0 = λ text. Puts c.put_all-2.result text (writes c.put_lines.new.writer) (writes c.put_all-2.new.writer) in
    puts_then c.put_all-2.result (writes c.args.writer.now) (writes c.put_lines.new.writer) (writes c.put_all-2.new.writer) (timeline_words ++ second) (refused_line c.args.refused)
    (puts_on (writes c.args.writer.now) (writes c.put_all.new.writer) (writes c.put_lines.new.writer) timeline_words second c.in_ok-put_all.ensures c.in_ok-put_lines.ensures)
    (subst P (c.as_slice.ensures.value ∙ c.refused_text.ensures) c.put_all-2.ensures)
