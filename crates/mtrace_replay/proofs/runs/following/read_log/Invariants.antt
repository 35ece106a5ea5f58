use Rattle.std.proofs.Common.{◌≡◌, ◌-◌, ◌^◌, []}
use Rattle.mtrace_log.specs.Trace.{HasTaken}
use Rattle.mtrace_log.specs.Progress.{CallsFor}
use Rattle.mtrace_replay.proofs.Running.FollowingLemmas.{IsFollowing}
use Rattle.mtrace_replay.proofs.runs.following.read_log.Given as goal

-- the lines are followed, and as many were as were read. The reader gave pieces, and perhaps told its end. The writer took pieces
abbrev pub invariant-loop-number : goal.invariant-loop-number
invariant-loop-number g l =
    let reads = g.R.Source.shown in
    let writes = g.W.Sink.shown in
    let rules = g.P.LineReplay.rules in
    record {
      under_way : (start : rules.Start) → rules.Stands start l.initial.replay [] → rules.noted start [] ≡ []
          → IsFollowing (rules.Stands start l.replay) (rules.noted start) (rules.Tells start) l.lines l.has_diagnostics (reads l.initial.reader) (reads l.reader) (writes l.initial.writer) (writes l.writer);
      counted : rules.lines l.replay ≡ l.lines.count;
      ready : rules.IsReady l.replay;
      none : l.findings ≡ [];
      whole : (reads l.reader).whole ≡ (reads l.initial.reader).whole;
      fixed : rules.fixed l.replay ≡ rules.fixed l.initial.replay;
      gave : CallsFor l.lines.stage (reads l.initial.reader).calls (reads l.reader).calls;
      took : HasTaken (writes l.initial.writer).calls (writes l.writer).calls;
    }

-- how many numbers of lines are left
abbrev pub decreases-loop-number : goal.decreases-loop-number
decreases-loop-number g l = 2 ^ 64 - l.lines.count
