use Rattle.std.proofs.Common.{◌≡◌, []}
use Rattle.mtrace_replay.specs.declared.heap.settings.Settings.{Settings}
use Rattle.mtrace_replay.specs.Replay.{StandsFor, heap_rules}
use Rattle.mtrace_replay.specs.Fronted.{fronted_rules}
use Rattle.mtrace_replay.specs.Replaying.{IsFollowed, HasGivenSo}
use Rattle.mtrace_replay.proofs.heap.tried.is_served.Given as goal

-- as many lines were replayed as the counter says, and none is refused; the reader gave pieces, and perhaps told its end
abbrev pub invariant-loop : goal.invariant-loop
invariant-loop g l =
    let reads = g.R.Source.shown in
    record {
      so_far : (settings : Settings) → StandsFor l.initial.tried.replay settings []
          → IsFollowed ((fronted_rules heap_rules).Stands (l.initial.tried.front, settings) l.tried) l.reading (reads l.initial.reader) (reads l.reader);
      counted : l.tried.replay.totals.lines ≡ l.reading.count;
      many : l.reading.count ≡ l.counter;
      served : l.tried.replay.totals.refused ≡ 0;
      whole : (reads l.reader).whole ≡ (reads l.initial.reader).whole;
      gave : HasGivenSo l.reading.stage (reads l.initial.reader) (reads l.reader);
      records : l.tried.replay.content.records ≡ l.initial.tried.replay.content.records;
    }
