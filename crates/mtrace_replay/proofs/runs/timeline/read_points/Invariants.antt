use Rattle.std.proofs.Common.{◌≡◌, ◌≤◌, [], length, take, vec_len, vec_capacity}
use Rattle.std.specs.List.{All}
use Rattle.mtrace_replay.specs.declared.heap.point.Point.{Point}
use Rattle.mtrace_replay.specs.declared.heap.settings.Settings.{Settings}
use Rattle.mtrace_replay.specs.Replay.{StandsFor}
use Rattle.mtrace_replay.specs.Replaying.{HasGivenSo}
use Rattle.mtrace_replay.specs.Texts.{greatest}
use Rattle.mtrace_replay.specs.Timeline.{lines_of}
use Rattle.mtrace_replay.proofs.Running.Points.{Gathers}
use Rattle.mtrace_replay.proofs.runs.timeline.read_points.Given as goal

-- the lines up to the last number were read and replayed, and there is a point for each number
abbrev pub invariant-loop-number : goal.invariant-loop-number
invariant-loop-number g l =
    let reads = g.R.Source.shown in
    record {
      so_far : (settings : Settings) → StandsFor l.initial.replay settings [] → Gathers settings l.points.items l.reading l.replay (reads l.initial.reader) (reads l.reader);
      told : lines_of l.points.items ≡ take l.number-index l.numbers;
      within : All (λ (point : Point). point.line ≤ l.reading.count) l.points.items;
      reached : l.reading.count ≡ greatest (take l.number-index l.numbers);
      counted : l.replay.totals.lines ≡ l.reading.count;
      whole : (reads l.reader).whole ≡ (reads l.initial.reader).whole;
      gave : HasGivenSo l.reading.stage (reads l.initial.reader) (reads l.reader);
      many : vec_len l.points ≡ l.number-index;
      room : length l.numbers ≤ vec_capacity l.points;
    }
