use Rattle.std.proofs.Common.{◌≡◌, ◌≤◌, length, take, vec_len, vec_capacity}
use Rattle.std.specs.List.{All}
use Rattle.mtrace_replay.specs.declared.ledger.point.LedgerPoint.{LedgerPoint}
use Rattle.mtrace_replay.specs.LedgerReplay.{LedgerStandsFor}
use Rattle.mtrace_replay.specs.LedgerTimeline.{IsPointOfLines, ledger_lines_of}
use Rattle.mtrace_replay.specs.Replaying.{HasGivenSo}
use Rattle.mtrace_replay.specs.Texts.{greatest}
use Rattle.mtrace_replay.proofs.Running.Points.{HasGathered}
use Rattle.mtrace_replay.proofs.ledger.timeline.read_points.Given as goal

-- the lines up to the last number were read and followed, and there is a point for each number
abbrev pub invariant-loop-number : goal.invariant-loop-number
invariant-loop-number g l =
    let reads = g.R.Source.shown in
    record {
      so_far : HasGathered (λ (point : LedgerPoint). point.line) IsPointOfLines l.points.items (LedgerStandsFor l.replay) l.reading (reads l.initial.reader) (reads l.reader);
      told : ledger_lines_of l.points.items ≡ take l.number-index l.numbers;
      within : All (λ (point : LedgerPoint). point.line ≤ l.reading.count) l.points.items;
      reached : l.reading.count ≡ greatest (take l.number-index l.numbers);
      counted : l.replay.lines ≡ l.reading.count;
      gave : HasGivenSo l.reading.stage (reads l.initial.reader) (reads l.reader);
      many : vec_len l.points ≡ l.number-index;
      room : length l.numbers ≤ vec_capacity l.points;
    }
