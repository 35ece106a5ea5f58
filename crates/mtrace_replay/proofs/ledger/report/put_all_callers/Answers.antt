-- What is held by its sites, and then who asked.
use Rattle.std.proofs.Common.{ap, subst, ◌∙◌, ◌++◌}
use Rattle.mtrace_log.specs.Output.{Puts}
use Rattle.mtrace_log.proofs.Writing.{puts_then, fails_early, puts_exit}
use Rattle.mtrace_replay.specs.declared.held.count.Count.{Count}
use Rattle.mtrace_replay.specs.Calls.{Called}
use Rattle.mtrace_replay.specs.Texts.{callers_text}
use Rattle.mtrace_replay.specs.Prepared.{held_text}
use Rattle.mtrace_replay.proofs.ledger.report.put_all_callers.Goals as goal

pub returns-in_err-put_held_sites : goal.returns-in_err-put_held_sites
returns-in_err-put_held_sites g c =
    let writes = g.W.Sink.shown in
    let held = held_text c.args.replay.now c.args.peak.now c.args.end.now in
    let asked = callers_text c.args.replay.now.called.total c.args.callers.now in
    puts_exit c.from_residual.result _ c.from_residual.ensures.1 (held ++ asked) (writes c.args.writer.now) (writes c.put_held_sites.new.writer)
    (fails_early (writes c.args.writer.now) (writes c.put_held_sites.new.writer) held asked c.in_err-put_held_sites.ensures)

pub returns : goal.returns
returns g c =
    let writes = g.W.Sink.shown in
    let held = held_text c.args.replay.now c.args.peak.now c.args.end.now in
    let total = c.total.ensures ∙ ap (λ (called : Called). called.total) c.ledger.ensures.called in
    puts_then c.put_callers.result (writes c.args.writer.now) (writes c.put_held_sites.new.writer) (writes c.put_callers.new.writer) held (callers_text c.args.replay.now.called.total c.args.callers.now)
    c.in_ok-put_held_sites.ensures
    (subst (λ (total : Count). Puts c.put_callers.result (callers_text total c.args.callers.now) (writes c.put_held_sites.new.writer) (writes c.put_callers.new.writer)) total c.put_callers.ensures)
