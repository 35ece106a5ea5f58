-- What is wrong with the line, then the snapshot.
use Rattle.std.proofs.Common.{◌++◌}
use Rattle.mtrace_log.proofs.Writing.{puts_on, fails_on, fails_early, puts_exit}
use Rattle.mtrace_replay.specs.Texts.{diagnostics_text}
use Rattle.mtrace_replay.specs.Prepared.{prepared_text}
use Rattle.mtrace_replay.specs.Snapshots.{snapshot_line}
use Rattle.mtrace_replay.proofs.ledger.snapshots.put_found_and_snapshot.Goals as goal

pub returns-in_err-more-clause-put : goal.returns-in_err-more-clause-put
returns-in_err-more-clause-put g c =
    let writes = g.W.Sink.shown in
    let replay = c.args.replay.now in
    puts_exit c.from_residual.result _ c.from_residual.ensures.1 _ (writes c.args.writer.now) (writes c.put_found.new.writer)
    (fails_early (writes c.args.writer.now) (writes c.put_found.new.writer) (diagnostics_text c.args.findings.now) (snapshot_line replay.lines c.args.time ++ prepared_text replay c.args.prepared.now)
    c.in_err-more.ensures.put)

pub returns-in_err-put_snapshot-clause-put : goal.returns-in_err-put_snapshot-clause-put
returns-in_err-put_snapshot-clause-put g c =
    let writes = g.W.Sink.shown in
    let replay = c.args.replay.now in
    puts_exit c.from_residual-in_err-put_snapshot.result _ c.from_residual-in_err-put_snapshot.ensures.1 _ (writes c.args.writer.now) (writes c.put_snapshot.new.writer)
    (fails_on (writes c.args.writer.now) (writes c.put_found.new.writer) (writes c.put_snapshot.new.writer) (diagnostics_text c.args.findings.now) (snapshot_line replay.lines c.args.time ++ prepared_text replay c.args.prepared.now)
    c.in_ok-more.ensures.put c.in_err-put_snapshot.ensures)

pub returns-clause-put : goal.returns-clause-put
returns-clause-put g c =
    let writes = g.W.Sink.shown in
    let replay = c.args.replay.now in
    puts_on (writes c.args.writer.now) (writes c.put_found.new.writer) (writes c.put_snapshot.new.writer) (diagnostics_text c.args.findings.now) (snapshot_line replay.lines c.args.time ++ prepared_text replay c.args.prepared.now)
    c.in_ok-more.ensures.put c.in_ok-put_snapshot.ensures
