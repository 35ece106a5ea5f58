-- The words, then the points.
use Rattle.std.proofs.Common.{flat_map}
use Rattle.mtrace_log.proofs.Writing.{puts_then, fails_early, puts_exit}
use Rattle.mtrace_replay.specs.Texts.{ledger_timeline_words, ledger_point_text}
use Rattle.mtrace_replay.proofs.ledger.timeline.put_timeline.Goals as goal

pub returns-in_err-put_all : goal.returns-in_err-put_all
returns-in_err-put_all g c =
    let writes = g.W.Sink.shown in
    puts_exit c.from_residual.result _ c.from_residual.ensures.1 _ (writes c.args.writer.now) (writes c.put_all.new.writer)
    (fails_early (writes c.args.writer.now) (writes c.put_all.new.writer) ledger_timeline_words (flat_map ledger_point_text c.args.points.now) c.in_err-put_all.ensures)

pub returns : goal.returns
returns g c =
    let writes = g.W.Sink.shown in
    puts_then c.put_lines.result (writes c.args.writer.now) (writes c.put_all.new.writer) (writes c.put_lines.new.writer) ledger_timeline_words (flat_map ledger_point_text c.args.points.now)
    c.in_ok-put_all.ensures c.put_lines.ensures
