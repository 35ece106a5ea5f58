-- What is wrong at the end, then the report.
use Rattle.std.proofs.Common.{refl}
use Rattle.mtrace_log.proofs.Writing.{puts_then, fails_early, puts_exit}
use Rattle.mtrace_replay.specs.Texts.{diagnostics_text, report_text}
use Rattle.mtrace_replay.specs.Replay.{entries}
use Rattle.mtrace_replay.proofs.runs.run.put_end.Goals as goal

pub returns-in_err-put_diagnostics : goal.returns-in_err-put_diagnostics
returns-in_err-put_diagnostics g c = record {
  kept = λ is. refl;
  put =
      puts_exit c.from_residual.result _ c.from_residual.ensures.1 _ (g.W.Sink.shown c.args.writer.now) (g.W.Sink.shown c.put_diagnostics.new.writer)
      (fails_early (g.W.Sink.shown c.args.writer.now) (g.W.Sink.shown c.put_diagnostics.new.writer) (diagnostics_text c.args.diagnostics.now.items)
      (report_text c.args.report (entries c.args.replay.now) c.args.replay.now.totals c.args.replay.now.content) c.in_err-put_diagnostics.ensures);
}

pub returns : goal.returns
returns g c = record {
  kept = c.put_report.ensures.kept;
  put =
      puts_then c.put_report.result (g.W.Sink.shown c.args.writer.now) (g.W.Sink.shown c.put_diagnostics.new.writer) (g.W.Sink.shown c.put_report.new.writer) (diagnostics_text c.args.diagnostics.now.items)
      (report_text c.args.report (entries c.args.replay.now) c.args.replay.now.totals c.args.replay.now.content) c.in_ok-put_diagnostics.ensures c.put_report.ensures.put;
}
