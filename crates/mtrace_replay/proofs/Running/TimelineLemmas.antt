-- The run that tells what is held over the lines of a log.
use Rattle.std.proofs.Common.{◌≡◌, ◌<◌, ◌≤◌, ℕ, List, reverse, refl, sym, subst, arith}
use Rattle.std.specs.List.{All}
use Rattle.mtrace_log.specs.Progress.{greatest_number}
use Rattle.mtrace_replay.specs.declared.heap.point.Point.{Point}
use Rattle.mtrace_replay.specs.declared.heap.settings.Settings.{Settings}
use Rattle.mtrace_replay.specs.declared.heap.totals.Totals.{Totals}
use Rattle.mtrace_replay.specs.Started.{started}
use Rattle.mtrace_replay.specs.Totals.{AreTotals}
use Rattle.mtrace_replay.specs.Moment.{ReadLine}
use Rattle.mtrace_replay.specs.History.{history}
use Rattle.mtrace_replay.specs.Replay.{Replayed, StandsFor}
use Rattle.mtrace_log.specs.Shown.{Bytes, ReaderState}
use Rattle.mtrace_replay.specs.Again.{HasReadFirst, FailsAgain}
use Rattle.mtrace_replay.specs.Texts.{timeline_text}
use Rattle.mtrace_replay.specs.Timeline.{AreTold}
use Rattle.mtrace_replay.specs.RunTimeline.{HasPoints, TellsTimeline, FailsAgainBefore}
use Rattle.mtrace_replay.proofs.Told.ToldLines.{told_within, greatest_told}

-- the totals of a replay are those of its lines
totals_of : (settings : Settings) (lines : List ReadLine) (replay : Replayed) (totals : Totals) → StandsFor replay settings (reverse lines) → totals ≡ replay.totals
    → AreTotals (started settings) (history settings lines) totals
totals_of settings lines replay totals stands same = subst (AreTotals (started settings) (history settings lines)) (sym same) stands.totals

peak_within : (settings : Settings) (lines : List ReadLine) (totals : Totals) → AreTotals (started settings) (history settings lines) totals → totals.peak_line ≤ totals.lines
peak_within settings lines totals summed = omega (arith, summed.lines, summed.peak.within)

-- the text of the points that were gathered
pub tells_timeline : (settings : Settings) (stretches : ℕ) (lines : List ReadLine) (replay : Replayed) (totals : Totals) (numbers : List ℕ) (points : List Point) (whole left : Bytes) → 0 < stretches
    → StandsFor replay settings (reverse lines) → totals ≡ replay.totals → (totals.peak_line ≤ totals.lines → AreTold totals.lines totals.peak_line stretches numbers)
    → HasPoints settings numbers points whole left → TellsTimeline settings stretches lines whole left (timeline_text points totals.refused)
tells_timeline settings stretches lines replay totals numbers points whole left some stands same told has =
    let summed = totals_of settings lines replay totals stands same in
    let within = peak_within settings lines totals summed in
    record {
      totals = totals;
      summed = summed;
      again = has.again;
      read = subst (λ n. HasReadFirst n whole left has.again) (greatest_told totals.lines totals.peak_line stretches numbers some within (told within)) has.read;
      points = points;
      told = subst (AreTold totals.lines totals.peak_line stretches) (sym has.told) (told within);
      exact = has.exact;
      text_is = refl;
    }

-- the reader failed before the last line
pub fails_before : (settings : Settings) (stretches : ℕ) (lines : List ReadLine) (replay : Replayed) (totals : Totals) (numbers : List ℕ) (reader_old reader_new : ReaderState) → 0 < stretches
    → StandsFor replay settings (reverse lines) → totals ≡ replay.totals → (totals.peak_line ≤ totals.lines → AreTold totals.lines totals.peak_line stretches numbers) → totals.lines ≤ greatest_number
    → (All (λ number. number ≤ totals.lines) numbers → totals.lines ≤ greatest_number → FailsAgain totals.lines reader_old reader_new)
    → FailsAgainBefore settings lines reader_old reader_new
fails_before settings stretches lines replay totals numbers reader_old reader_new some stands same told few fails =
    let summed = totals_of settings lines replay totals stands same in
    let within = peak_within settings lines totals summed in
    (totals, summed, fails (told_within totals.lines totals.peak_line stretches numbers some within (told within)) few)
