-- The line of the point, then the sites.
use Rattle.std.proofs.Common.{flat_map}
use Rattle.mtrace_log.proofs.Writing.{puts_then, fails_early, puts_exit}
use Rattle.mtrace_replay.specs.Texts.{ledger_point_text, site_text}
use Rattle.mtrace_replay.proofs.ledger.site_timeline.put_rows.Goals as goal

pub returns-in_err-put_line : goal.returns-in_err-put_line
returns-in_err-put_line g c =
    let writes = g.W.Sink.shown in
    puts_exit c.from_residual.result _ c.from_residual.ensures.1 _ (writes c.args.writer.now) (writes c.put_line.new.writer)
    (fails_early (writes c.args.writer.now) (writes c.put_line.new.writer) (ledger_point_text c.args.point.now) (flat_map site_text c.args.sites.now) c.in_err-put_line.ensures)

pub returns : goal.returns
returns g c =
    let writes = g.W.Sink.shown in
    puts_then c.put_lines.result (writes c.args.writer.now) (writes c.put_line.new.writer) (writes c.put_lines.new.writer) (ledger_point_text c.args.point.now) (flat_map site_text c.args.sites.now)
    c.in_ok-put_line.ensures c.put_lines.ensures
