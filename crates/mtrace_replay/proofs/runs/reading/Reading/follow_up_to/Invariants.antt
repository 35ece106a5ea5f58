use Rattle.std.proofs.Common.{◌≡◌}
use Rattle.mtrace_log.specs.Shown.{ReaderState}
use Rattle.mtrace_replay.specs.Replaying.{IsFollowed, IsFollowedOn, HasGivenSo}
use Rattle.mtrace_replay.proofs.runs.reading.Reading.follow_up_to.Given as goal

-- as many lines were read and followed as the counter says; the reader gave pieces, and perhaps told its end
abbrev pub invariant-loop : goal.invariant-loop
invariant-loop g l =
    let reads = g.R.Source.shown in
    let rules = g.P.LineReplay.rules in
    record {
      so_far : (begin : rules.Start) (start : ReaderState) (before : IsFollowed (rules.Stands begin l.initial.replay) l.initial.self start (reads l.initial.reader))
          → IsFollowedOn (rules.Stands begin l.replay) before.lines l.self start (reads l.reader);
      counted : rules.lines l.replay ≡ l.self.count;
      ready : rules.IsReady l.replay;
      many : l.self.count ≡ l.counter;
      whole : (reads l.reader).whole ≡ (reads l.initial.reader).whole;
      gave : (start : ReaderState) → HasGivenSo l.initial.self.stage start (reads l.initial.reader) → HasGivenSo l.self.stage start (reads l.reader);
      fixed : rules.fixed l.replay ≡ rules.fixed l.initial.replay;
    }
