-- What a run leaves that tells what is held over the lines of a log.
use Rattle.std.specs.Prelude.{◌≡◌, ℕ, ◌+◌, ◌≤◌, true, false, List, [], map, take, Vec, vec_capacity, Result, Err, OnOk, OnErr}
use Rattle.std.specs.List.{All}
use Rattle.mtrace_log.specs.Shown.{Bytes, ReaderState, WriterState}
use Rattle.mtrace_log.specs.Trace.{HasNotFailed}
use Rattle.mtrace_log.specs.Progress.{greatest_number}
use Rattle.mtrace_replay.specs.declared.heap.point.Point.{Point}
use Rattle.mtrace_replay.specs.declared.heap.settings.Settings.{Settings}
use Rattle.mtrace_replay.specs.declared.runs.status.Status.{Status}
use Rattle.mtrace_replay.specs.declared.runs.status.RunFault.{RunFault}
use Rattle.mtrace_replay.specs.declared.runs.status.RunFault.TheVariants.{BadSettings}
use Rattle.mtrace_replay.specs.declared.heap.totals.Totals.{Totals}
use Rattle.mtrace_replay.specs.Course.{Course, shown_before}
use Rattle.mtrace_replay.specs.Started.{started}
use Rattle.mtrace_replay.specs.Totals.{AreTotals}
use Rattle.mtrace_replay.specs.Moment.{ReadLine}
use Rattle.mtrace_replay.specs.History.{history}
use Rattle.mtrace_replay.specs.Replay.{Replayed, StandsFor}
use Rattle.mtrace_replay.specs.Texts.{greatest, timeline_text}
use Rattle.mtrace_replay.specs.Timeline.{is_bad_stretches, AreTold, IsPoint, lines_of}
use Rattle.mtrace_replay.specs.Run.{NothingDone}
use Rattle.mtrace_replay.specs.Again.{HasReadFirst, begun_again, FailsAgain, Follows, RunsAgain}

-- The text of what is held over the lines of a log. As many lines as it has are read again, from the first byte on. Each point
-- is of the first of them.
pub record TellsTimeline (settings : Settings) (stretches : ℕ) (lines : List ReadLine) (whole left : Bytes) (text : List ℕ) : Type 0 where
  pub totals : Totals
  pub summed : AreTotals (started settings) (history settings lines) totals
  pub again : List ReadLine
  pub read : HasReadFirst totals.lines whole left again
  pub points : List Point
  pub told : AreTold totals.lines totals.peak_line stretches (lines_of points)
  pub exact : All (λ point. IsPoint (started settings) (history settings (take point.line again)) point) points
  pub text_is : text ≡ timeline_text points totals.refused

-- the reader failed in the second reading, or has fewer lines then
abbrev pub FailsAgainBefore : (settings : Settings) (lines : List ReadLine) (reader_old reader_new : ReaderState) → Type 0
FailsAgainBefore settings lines reader_old reader_new =
    (totals : Totals) × AreTotals (started settings) (history settings lines) totals × FailsAgain totals.lines reader_old reader_new

-- the log whose lines these are was read again, and what is held over its lines was written
abbrev pub TimelineFollows : {R W : Type 0} → (settings : Settings) (stretches : ℕ) (lines : List ReadLine) → Result Status RunFault → Course R ReaderState → Course W WriterState → Type 0
TimelineFollows settings stretches lines result reader writer =
    Follows (TellsTimeline settings stretches lines (shown_before reader).whole) (λ old new. HasNotFailed (begun_again old).calls new.calls) (FailsAgainBefore settings lines) result reader writer

-- What a run leaves that tells what is held over the lines of a log. Where the number of stretches is bad, nothing is done.
-- Else there is first a run without a report, and then the log is read again.
pub record RunsTimeline {R W : Type 0} (settings : Settings) (stretches : ℕ) (result : Result Status RunFault)
    (reader : Course R ReaderState) (writer : Course W WriterState) : Type 0 where
  pub bad_stretches : is_bad_stretches stretches ≡ true → (result ≡ Err BadSettings) × NothingDone reader writer
  pub runs : is_bad_stretches stretches ≡ false → RunsAgain settings (TimelineFollows settings stretches) result reader writer

-- empty lists of numbers and of points, each with room for all that are told: 0, the peak's, and one for each stretch
pub record HasRoomForPoints {N P : Type 0} (stretches : ℕ) (numbers : Vec ℕ N) (points : Vec Point P) : Type 0 where
  pub no_number : numbers.items ≡ []
  pub no_point : points.items ≡ []
  pub numbers_room : stretches + 2 ≤ vec_capacity numbers
  pub points_room : stretches + 2 ≤ vec_capacity points

-- Lines were read again, up to the greatest of these numbers. There is a point for each number, of the first of these lines.
pub record HasPointsOf {P : Type 0} (line_of : P → ℕ) (Is : List ReadLine → P → Type 0) (numbers : List ℕ) (points : List P) (whole left : Bytes) : Type 0 where
  pub again : List ReadLine
  pub read : HasReadFirst (greatest numbers) whole left again
  pub told : map line_of points ≡ numbers
  pub exact : All (λ point. Is (take (line_of point) again) point) points

-- there is a point on a heap for each number, of the first of the lines read
abbrev pub HasPoints : (settings : Settings) (numbers : List ℕ) (points : List Point) (whole left : Bytes) → Type 0
HasPoints settings numbers points whole left =
    HasPointsOf (λ point. point.line) (λ first point. IsPoint (started settings) (history settings first) point) numbers points whole left

-- What a call leaves that reads the log again, and gathers a point for each of these numbers. Or the reader failed, or has fewer
-- lines than one of them.
pub record ReadsPoints {E : Type 0} (numbers : List ℕ) (result : Result (Unit {0}) E) (points : List Point) (replay_old : Replayed)
    (reader_old reader_new : ReaderState) : Type 0 where
  pub done : OnOk result ((settings : Settings) → StandsFor replay_old settings [] → HasPoints settings numbers points reader_old.whole reader_new.left)
  pub not_failed : OnOk result (HasNotFailed (begun_again reader_old).calls reader_new.calls)
  pub fails : OnErr result ((settings : Settings) (many : ℕ) → StandsFor replay_old settings [] → All (λ number. number ≤ many) numbers → many ≤ greatest_number
      → FailsAgain many reader_old reader_new)
