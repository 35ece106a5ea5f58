-- Lines that are read and followed one after the other.
use Rattle.std.specs.Prelude.{◌≡◌, ◌≢◌, ℕ, ◌≤◌, List, [], ◌++◌, length, reverse, Some, Result, IfErr, OnOk}
use Rattle.mtrace_log.specs.Progress.{Progress, Stage, Reading, Faulted, to_come, CallsFor, greatest_number}
use Rattle.mtrace_log.specs.Shown.{ReaderState}
use Rattle.mtrace_log.specs.Trace.{HasNotFailed}
use Rattle.mtrace_log.specs.HasRead.{HasReadSo}
use Rattle.mtrace_log.specs.Event.{Event}
use Rattle.mtrace_log.specs.declared.event.LineFault.{LineFault}
use Rattle.mtrace_log.specs.declared.line.ReadFault.{ReadFault}
use Rattle.mtrace_replay.specs.declared.runs.reading.Stop.{Stop}
use Rattle.mtrace_replay.specs.declared.runs.reading.Stop.TheVariants.{Memory}
use Rattle.mtrace_replay.specs.Course.{Course, shown_before, shown_after}
use Rattle.mtrace_replay.specs.LineReplay.{LineRules}
use Rattle.mtrace_replay.specs.Again.{StopsEarly}

-- no line was read yet
abbrev pub no_line : Progress
no_line = record { held = []; count = 0; stage = Reading; last = Some [] }

-- the lines so far were read, and this holds of them, the latest first
pub record IsFollowed (Stands : List (Result Event LineFault) → Type 0) (progress : Progress) (reader_start reader_now : ReaderState) : Type 0 where
  pub lines : List (Result Event LineFault)
  pub count : progress.count ≡ length lines
  pub no_fault : (fault : ReadFault) → progress.stage ≢ Faulted fault
  pub read : HasReadSo progress.stage reader_start.left (to_come progress reader_now.left) lines
  pub stands : Stands (reverse lines)

-- the lines before, and more behind these, were read, and this holds of them all, the latest first
pub record IsFollowedOn (Stands : List (Result Event LineFault) → Type 0) (before : List (Result Event LineFault)) (progress : Progress) (reader_start reader_now : ReaderState) : Type 0 where
  pub now : IsFollowed Stands progress reader_start reader_now
  pub more : List (Result Event LineFault)
  pub behind : now.lines ≡ before ++ more

-- since the start the reader gave pieces, as many as this stage has, and perhaps told its end
abbrev pub HasGivenSo : Stage → (start now : ReaderState) → Type 0
HasGivenSo stage start now = CallsFor stage start.calls now.calls × HasNotFailed start.calls now.calls

-- What a call leaves that reads and follows the lines up to this number. The replay then stands for these lines too. Or memory was
-- refused, or the reader failed, or has fewer lines.
pub record FollowsUpTo {P R : Type 0} (rules : LineRules P) (number : ℕ) (result : Result (Unit {0}) Stop) (old new : Progress) (replay_old replay_new : P)
    (reader : Course R ReaderState) : Type 0 where
  pub counted : OnOk result (rules.lines replay_new ≡ new.count)
  pub ready : OnOk result (rules.IsReady replay_new)
  pub reached : OnOk result (new.count ≡ number)
  pub following : OnOk result ((begin : rules.Start) (start : ReaderState) (so_far : IsFollowed (rules.Stands begin replay_old) old start (shown_before reader))
      → IsFollowedOn (rules.Stands begin replay_new) so_far.lines new start (shown_after reader))
  pub gave : OnOk result ((start : ReaderState) → HasGivenSo old.stage start (shown_before reader) → HasGivenSo new.stage start (shown_after reader))
  pub lacks : IfErr result (λ stop. stop ≡ Memory → rules.Lacks)
  pub memory : IfErr result (λ stop. stop ≡ Memory → (start : ReaderState) → HasGivenSo old.stage start (shown_before reader) → HasNotFailed start.calls (shown_after reader).calls)
  pub stops : IfErr result (λ stop. stop ≢ Memory → (begin : rules.Start) (start : ReaderState) (many : ℕ) → IsFollowed (rules.Stands begin replay_old) old start (shown_before reader)
      → HasGivenSo old.stage start (shown_before reader) → number ≤ many → many ≤ greatest_number → StopsEarly many start (shown_after reader))
  pub whole : (shown_after reader).whole ≡ (shown_before reader).whole
  pub fixed : rules.fixed replay_new ≡ rules.fixed replay_old
