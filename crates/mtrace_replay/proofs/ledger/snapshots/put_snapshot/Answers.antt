-- Its line, then the report.
use Rattle.std.proofs.Common.{ℕ, List, subst, ap, ◌∙◌}
use Rattle.mtrace_log.specs.Output.{PutsAll, PutsBeginning}
use Rattle.mtrace_log.proofs.Writing.{puts_then, fails_early, puts_exit}
use Rattle.mtrace_replay.specs.Prepared.{prepared_text}
use Rattle.mtrace_replay.specs.Snapshots.{snapshot_line}
use Rattle.mtrace_replay.proofs.ledger.snapshots.put_snapshot.Goals as goal

pub returns-in_err-put_all : goal.returns-in_err-put_all
returns-in_err-put_all g c =
    let writes = g.W.Sink.shown in
    let replay = c.args.replay.now in
    let P : List ℕ → Type 0 = λ text. PutsBeginning text (writes c.args.writer.now) (writes c.put_all.new.writer) in
    let line_is = c.as_slice.ensures.value ∙ c.snapshot_line.ensures ∙ ap (λ n. snapshot_line n c.args.time) c.lines.ensures in
    puts_exit c.from_residual.result _ c.from_residual.ensures.1 _ (writes c.args.writer.now) (writes c.put_all.new.writer)
    (fails_early (writes c.args.writer.now) (writes c.put_all.new.writer) (snapshot_line replay.lines c.args.time) (prepared_text replay c.args.prepared.now)
    (subst P line_is c.in_err-put_all.ensures))

pub returns : goal.returns
returns g c =
    let writes = g.W.Sink.shown in
    let replay = c.args.replay.now in
    let P : List ℕ → Type 0 = λ text. PutsAll text (writes c.args.writer.now) (writes c.put_all.new.writer) in
    let line_is = c.as_slice.ensures.value ∙ c.snapshot_line.ensures ∙ ap (λ n. snapshot_line n c.args.time) c.lines.ensures in
    puts_then c.put_ledger_report.result (writes c.args.writer.now) (writes c.put_all.new.writer) (writes c.put_ledger_report.new.writer) (snapshot_line replay.lines c.args.time) (prepared_text replay c.args.prepared.now)
    (subst P line_is c.in_ok-put_all.ensures) c.put_ledger_report.ensures
