-- A snapshot is put where one is due.
use Rattle.std.proofs.Common.{◌++◌, sym}
use Rattle.mtrace_replay.specs.Texts.{diagnostics_text}
use Rattle.mtrace_replay.specs.Prepared.{prepared_text}
use Rattle.mtrace_replay.specs.Snapshots.{snapshot_line}
use Rattle.mtrace_replay.proofs.OnLedger.SnapshotLemmas.{one_due}
use Rattle.mtrace_replay.proofs.ledger.snapshots.SnapshotsLineReplay.tell_line.Goals as goal

pub returns-in-Ok-put_found_and_snapshot : goal.returns-in-Ok-put_found_and_snapshot
returns-in-Ok-put_found_and_snapshot g c =
    let snapshots = c.args.self.now in
    let its = c.args.findings.now in
    let put = c.in-Ok-put_found_and_snapshot.ensures in
    record {
      more_is = put.found;
      cleared = put.cleared;
      text = diagnostics_text its ++ (snapshot_line snapshots.replay.lines c.in-Some.time ++ prepared_text snapshots.replay c.in-Ok.prepared);
      adds = one_due snapshots its c.in-Some.time (sym c.in-Some.ensures) c.in-Ok.prepared c.in-Ok.ensures.report c.in-Ok.ensures.named;
      put = put.put;
    }

pub returns : goal.returns
returns g c =
    let snapshots = c.args.self.now in
    let its = c.args.findings.now in
    record {
      text = diagnostics_text its ++ (snapshot_line snapshots.replay.lines c.in-Some.time ++ prepared_text snapshots.replay c.in-Ok.prepared);
      adds = one_due snapshots its c.in-Some.time (sym c.in-Some.ensures) c.in-Ok.prepared c.in-Ok.ensures.report c.in-Ok.ensures.named;
      put = c.in-Err.ensures.put;
    }
