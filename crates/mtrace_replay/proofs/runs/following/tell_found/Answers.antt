use Rattle.std.proofs.Common.{refl}
use Rattle.mtrace_replay.specs.Texts.{diagnostics_text}
use Rattle.mtrace_replay.proofs.runs.following.tell_found.Goals as goal

pub returns-in-Ok : goal.returns-in-Ok
returns-in-Ok g c = record {
  more_is = c.in-Ok.ensures.found;
  cleared = c.in-Ok.ensures.cleared;
  text = diagnostics_text c.args.findings.now;
  adds = refl;
  put = c.in-Ok.ensures.put;
}

pub returns-in-Err : goal.returns-in-Err
returns-in-Err g c = record { text = diagnostics_text c.args.findings.now; adds = refl; put = c.in-Err.ensures.put }
