use Rattle.std.proofs.Common.{◌≡◌, ◌≤◌, length, reverse, take}
use Rattle.mtrace_log.specs.Progress.{most_asked}
use Rattle.mtrace_replay.specs.Replaying.{HasGivenSo}
use Rattle.mtrace_replay.specs.RunSiteTimeline.{last_told}
use Rattle.mtrace_replay.specs.Texts.{greatest}
use Rattle.mtrace_replay.proofs.OnLedger.SiteTimelineLemmas.{IsTelling}
use Rattle.mtrace_replay.proofs.ledger.site_timeline.tell_lines.Given as goal

-- the lines up to the last number were followed, and the text behind the lines of the numbers was put
abbrev pub invariant-loop-number : goal.invariant-loop-number
invariant-loop-number g l =
    let reads = g.R.Source.shown in
    let writes = g.W.Sink.shown in
    let told = take l.number-index l.numbers in
    record {
      so_far : IsTelling told l.replay l.reading (reads l.initial.reader) (reads l.reader) (writes l.initial.writer) (writes l.writer);
      reached : l.reading.count ≡ greatest told;
      counted : l.replay.lines ≡ l.reading.count;
      mark : l.replay.mark ≡ last_told (reverse told);
      few : length l.reading.held ≤ most_asked;
      gave : HasGivenSo l.reading.stage (reads l.initial.reader) (reads l.reader);
    }
