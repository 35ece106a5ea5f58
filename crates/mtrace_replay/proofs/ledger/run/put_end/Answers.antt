-- What is wrong at the end, then the report.
use Rattle.mtrace_log.proofs.Writing.{puts_then, fails_early, puts_exit}
use Rattle.mtrace_replay.specs.Texts.{diagnostics_text}
use Rattle.mtrace_replay.specs.Prepared.{prepared_text}
use Rattle.mtrace_replay.proofs.ledger.run.put_end.Goals as goal

pub returns-in_err-put_diagnostics : goal.returns-in_err-put_diagnostics
returns-in_err-put_diagnostics g c =
    puts_exit c.from_residual.result _ c.from_residual.ensures.1 _ (g.W.Sink.shown c.args.writer.now) (g.W.Sink.shown c.put_diagnostics.new.writer)
    (fails_early (g.W.Sink.shown c.args.writer.now) (g.W.Sink.shown c.put_diagnostics.new.writer) (diagnostics_text c.args.diagnostics.now.items)
    (prepared_text c.args.replay.now c.args.prepared.now) c.in_err-put_diagnostics.ensures)

pub returns : goal.returns
returns g c =
    puts_then c.put_ledger_report.result (g.W.Sink.shown c.args.writer.now) (g.W.Sink.shown c.put_diagnostics.new.writer) (g.W.Sink.shown c.put_ledger_report.new.writer) (diagnostics_text c.args.diagnostics.now.items)
    (prepared_text c.args.replay.now c.args.prepared.now) c.in_ok-put_diagnostics.ensures c.put_ledger_report.ensures
