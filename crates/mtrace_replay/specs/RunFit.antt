-- What a run leaves that tells how large a pool a log needs.
use Rattle.std.specs.Prelude.{◌≡◌, ◌≢◌, ◌⊎◌, ◌↔◌, ℕ, zero, suc, ◌<◌, ◌≤◌, Bool, true, false, List, [], ◌++◌, map, length, reverse, count_by, Option, None, IsSome, Result, IfOk, OnOk, OnErr, IsErrOf, IsTrue}
use Rattle.std.specs.List.{AllByRecursion}
use Rattle.tlsf_heap.specs.Sizing.{sure_pool}
use Rattle.mtrace_log.specs.Shown.{Bytes, ReaderState, WriterState}
use Rattle.mtrace_log.specs.declared.call.Call.{Call}
use Rattle.mtrace_log.specs.declared.call.Call.TheVariants.{Began, Failed}
use Rattle.mtrace_replay.specs.declared.heap.settings.Settings.{Settings}
use Rattle.mtrace_replay.specs.declared.runs.status.Status.{Status}
use Rattle.mtrace_replay.specs.declared.runs.status.RunFault.{RunFault}
use Rattle.mtrace_replay.specs.declared.runs.status.RunFault.TheVariants.{BadSettings}
use Rattle.mtrace_replay.specs.declared.heap.totals.Totals.{Totals}
use Rattle.mtrace_replay.specs.Course.{Course, shown_before}
use Rattle.mtrace_replay.specs.Started.{started}
use Rattle.mtrace_replay.specs.Totals.{blocks_in, rounded_bytes_in, AreTotals, IsMost, is_refused}
use Rattle.mtrace_replay.specs.Moment.{ReadLine}
use Rattle.mtrace_replay.specs.Asked.{greatest_class}
use Rattle.mtrace_replay.specs.History.{history}
use Rattle.mtrace_replay.specs.Fit.{one_pool, greatest_settings, enough_records, is_bad_step, step_of, first_number, range, ranges, Verdict, least_size, fitted}
use Rattle.mtrace_replay.specs.Texts.{greatest_line, most_line, fitted_lines, untried_lines, refused_line}
use Rattle.mtrace_replay.specs.Reporting.{TellsNothing}
use Rattle.mtrace_replay.specs.Run.{NothingDone}
use Rattle.mtrace_replay.specs.Fronted.{fronted, fronted_moments}
use Rattle.mtrace_replay.specs.Needs.{RunsFronted}
use Rattle.mtrace_replay.specs.Replay.{Replayed}
use Rattle.mtrace_replay.specs.Again.{HasReadFirst, FailsAgain, Follows, RunsFirst}

-- how many of the lines are refused on a heap by the settings
abbrev pub refusals : Settings → List ReadLine → ℕ
refusals settings lines = count_by is_refused (history settings lines)

-- This many lines of a log were tried on a heap by the settings, each request larger by the front. All of them were read, and
-- none is refused; or one or more of those that were read are refused.
abbrev pub IsTried : (front : ℕ) → Settings → (many : ℕ) → (serves : Bool) → (whole left : Bytes) → Type 0
IsTried front settings many true whole left = (lines : List ReadLine) × HasReadFirst many whole left lines × (refusals settings (fronted front lines) ≡ 0)
IsTried front settings many false whole left =
    (lines : List ReadLine) × (read : ℕ) × (read ≤ many) × HasReadFirst read whole left lines × (0 < refusals settings (fronted front lines))

-- this many lines of the log were tried on one pool of each size, with this many records, and these are the verdicts
pub record AreVerdicts (front records many : ℕ) (whole : Bytes) (tried : List ℕ) (verdicts : List Verdict) : Type 0 where
  pub sizes_are : map (λ verdict. verdict.size) verdicts ≡ tried
  pub each : AllByRecursion (λ verdict. (left : Bytes) × IsTried front (one_pool verdict.size records) many verdict.serves whole left) verdicts

-- One range after the other was tried, until one has a size that serves, or no range is left.
pub record TriesRanges (front records many step first : ℕ) (whole : Bytes) (verdicts : List Verdict) : Type 0 where
  pub times : ℕ
  pub before : List Verdict
  pub last : List Verdict
  pub all : verdicts ≡ before ++ last
  pub before_are : AreVerdicts front records many whole (ranges step first times) before
  pub last_are : AreVerdicts front records many whole (range step first times) last
  pub none_before : least_size before ≡ None
  pub ended : IsSome (least_size last) ⊎ (range step first (suc times) ≡ [])

-- What is told of the sizes: nothing where the greatest pool refuses lines, but how many; else the log was tried on ranges of
-- them. It began again as many times as sizes were tried.
abbrev pub TellsSizes : (front refused : ℕ) (step peak most many : ℕ) (sure : Option ℕ) (whole : Bytes) (times : ℕ) (text : List ℕ) → Type 0
TellsSizes front zero step peak most many sure whole times text =
    (verdicts : List Verdict) × TriesRanges front (enough_records most) many step (first_number step peak) whole verdicts × (times ≡ length verdicts)
    × (text ≡ fitted_lines (enough_records most) (fitted verdicts) sure)
TellsSizes front (suc more) step peak most many sure whole times text = (times ≡ 0) × (text ≡ untried_lines ++ refused_line (suc more))

-- The text of how large a pool a log needs, which began again this many times, by its lines with the front.
-- It has the peak and the most addresses held, on the greatest pool, and what is told of the sizes. The pool that is always enough is
-- told by the most addresses, the most bytes in their blocks, and the greatest class size that a served line asks for.
pub record TellsFit (front : ℕ) (step : Option ℕ) (lines : List ReadLine) (whole : Bytes) (times : ℕ) (text : List ℕ) : Type 0 where
  pub totals : Totals
  pub summed : AreTotals (started greatest_settings) (history greatest_settings lines) totals
  pub most : ℕ
  pub is_most : IsMost blocks_in (history greatest_settings lines) most
  pub rounded : ℕ
  pub is_rounded : IsMost rounded_bytes_in (history greatest_settings lines) rounded
  pub rest : List ℕ
  pub tells : TellsSizes front totals.refused (step_of step totals.peak_bytes) totals.peak_bytes most totals.lines
      (sure_pool most rounded (greatest_class (started greatest_settings) (reverse lines))) whole times rest
  pub text_is : text ≡ greatest_line totals ++ most_line most ++ rest

-- whether a call began the text again
abbrev pub is_beginning : Call → Bool
is_beginning Began = true
is_beginning call = false

-- calls were made: none of them failed, and this many began the text again
pub record HasBegun (times : ℕ) (old new : List Call) : Type 0 where
  pub more : List Call
  pub none_failed : AllByRecursion (λ call. call ≢ Failed) more
  pub begun : count_by is_beginning more ≡ times
  pub calls : new ≡ more ++ old

-- the reader failed in a later reading, or has fewer lines then, after readings that didn't fail
pub record FailsLater (many : ℕ) (reader_old reader_new : ReaderState) : Type 0 where
  pub reader_middle : ReaderState
  pub whole : reader_middle.whole ≡ reader_old.whole
  pub times : ℕ
  pub begun : HasBegun times reader_old.calls reader_middle.calls
  pub fails : FailsAgain many reader_middle reader_new

-- What a call leaves that tries a log on the heap of a replay, with this many records: what it found, and how often the text was
-- begun again for that; or the reader failed.
pub record TriesLog {E : Type 0} (Tried : Bool → Type 0) (Fails : Type 0) (times many : ℕ) (result : Result Bool E) (reader_old reader_new : ReaderState) (replay : Replayed) : Type 0 where
  pub tried : IfOk result Tried
  pub begun : OnOk result (HasBegun times reader_old.calls reader_new.calls)
  pub read : OnErr result Fails
  pub whole : reader_new.whole ≡ reader_old.whole
  pub records : replay.content.records ≡ many

-- What a call leaves that reads the log again, once for each size: what it tells of that and of how many times that was, or the
-- reader failed.
pub record ReadsAgain {T E : Type 0} (many : ℕ) (Tells : T → (times : ℕ) → Type 0) (result : Result T E) (old new : ReaderState) : Type 0 where
  pub tells : IfOk result (λ told. (times : ℕ) × Tells told times × HasBegun times old.calls new.calls)
  pub read : OnErr result (FailsLater many old new)

-- the log whose lines these are was read again, once for each size, and what they tell was written
abbrev pub FitFollows : {R W : Type 0} → (front : ℕ) (step : Option ℕ) (lines : List ReadLine) → Result Status RunFault → Course R ReaderState → Course W WriterState → Type 0
FitFollows front step lines result reader writer =
    (times : ℕ) × Follows (λ left_new. TellsFit front step lines (shown_before reader).whole times) (λ old new. HasBegun times old.calls new.calls) (FailsLater (length lines)) result reader writer

-- What a run leaves that tells how large a pool a log needs whose requests are larger by the front. `BadSettings` comes exactly
-- where the step is bad, and then nothing is done. Else there is first a run without a report on the greatest pool, and then the log is
-- read again.
pub record RunsFit {R W : Type 0} (front : ℕ) (step : Option ℕ) (result : Result Status RunFault) (reader : Course R ReaderState) (writer : Course W WriterState) : Type 0 where
  pub bad_step : IsErrOf result BadSettings ↔ IsTrue (is_bad_step step)
  pub nothing_done : IsErrOf result BadSettings → NothingDone reader writer
  pub runs : is_bad_step step ≡ false
      → RunsFirst (RunsFronted front greatest_settings) (fronted_moments front greatest_settings) TellsNothing (λ lines. FitFollows front step (fronted front lines)) result reader writer
