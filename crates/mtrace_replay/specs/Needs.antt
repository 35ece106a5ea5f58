-- What a log needs of a pool, gathered beside its replay on a heap.
use Rattle.std.specs.Prelude.{◌≡◌, ℕ, ◌+◌, ◌<◌, ◌≤◌, ◌^◌, nat_lt, is_some, Option, Some, None, List, reverse, Result, Ok, Err}
use Rattle.tlsf_class.specs.Classes.{greatest_size}
use Rattle.mtrace_log.specs.Shown.{ReaderState, WriterState}
use Rattle.mtrace_replay.specs.declared.heap.settings.Settings.{Settings}
use Rattle.mtrace_replay.specs.declared.runs.status.Status.{Status}
use Rattle.mtrace_replay.specs.declared.runs.status.RunFault.{RunFault}
use Rattle.mtrace_replay.specs.declared.runs.needs.Needs.{Needs}
use Rattle.mtrace_replay.specs.declared.runs.needs.NeedsReplay.{NeedsReplay}
use Rattle.mtrace_replay.specs.declared.runs.needs.NeedsRun.{NeedsRun}
use Rattle.mtrace_replay.specs.Started.{Bare, started}
use Rattle.mtrace_replay.specs.declared.heap.totals.Totals.{Totals}
use Rattle.mtrace_replay.specs.Moment.{ReadLine, Given, rounded_bytes}
use Rattle.mtrace_replay.specs.History.{moments}
use Rattle.mtrace_replay.specs.Totals.{blocks_in, rounded_bytes_in, Measures, IsMost}
use Rattle.mtrace_replay.specs.Asked.{greatest_class}
use Rattle.mtrace_replay.specs.LineReplay.{LineRules, Notes}
use Rattle.mtrace_replay.specs.Replay.{heap_notes, StandsFor}
use Rattle.mtrace_replay.specs.Settings.{are_bad}
use Rattle.mtrace_replay.specs.Course.{Course}
use Rattle.mtrace_replay.specs.Reporting.{TellsNothing, Reports}
use Rattle.mtrace_replay.specs.Run.{RunsBy}
use Rattle.mtrace_replay.specs.Fronted.{fronted, fronted_moments}

-- a measure of what was given or freed, 0 where nothing was
abbrev pub of_one : (Given → ℕ) → Option Given → ℕ
of_one measure None = 0
of_one measure (Some given) = measure given

-- the bytes of the block of what is held
abbrev pub bytes_of_block : Given → ℕ
bytes_of_block given = rounded_bytes given.entry.size

-- by the sums before and after, what is held lost `freed` and got `given`, of `asked` bytes; either may be none
pub record Exchanges (asked : ℕ) (old new : Totals) (freed given : Option Given) : Type 0 where
  pub served : nat_lt old.served new.served ≡ is_some given
  pub size : of_one (λ given. given.entry.size) given ≡ of_one (λ given. asked) given
  pub blocks : new.live_blocks + of_one (λ given. 1) freed ≡ of_one (λ given. 1) given + old.live_blocks
  pub bytes : new.live_bytes + of_one (λ given. given.entry.size) freed ≡ of_one (λ given. given.entry.size) given + old.live_bytes
  pub within_blocks : of_one (λ given. 1) freed ≤ old.live_blocks
  pub within_bytes : of_one (λ given. given.entry.size) freed ≤ old.live_bytes

-- the bytes of the blocks held behind an exchange, by those before it
abbrev pub BehindExchange : (asked : ℕ) (old new : Totals) (before behind : ℕ) → Type 0
BehindExchange asked old new before behind = (freed given : Option Given) (exact : ℕ) → Exchanges asked old new freed given → before + greatest_size < 2 ^ 64
    → exact + of_one bytes_of_block freed ≡ of_one bytes_of_block given + before → behind ≡ exact

-- the needs are those of the lines, of which the latest comes first
pub record AreNeeds (start : Bare) (past : List ReadLine) (needs : Needs) : Type 0 where
  pub most : IsMost blocks_in (moments start past) needs.most
  pub rounded : Measures rounded_bytes_in (moments start past) needs.rounded
  pub most_rounded : IsMost rounded_bytes_in (moments start past) needs.most_rounded
  pub class : needs.class_size ≡ greatest_class start past

-- what a replay says of itself that gathers what its lines need
abbrev pub needs_rules : LineRules NeedsReplay
needs_rules = record {
  Start = Settings;
  Stands = λ settings replay past. StandsFor replay.replay settings past × AreNeeds (started settings) past replay.needs;
  noted = heap_notes;
  Tells = λ settings. Notes (heap_notes settings);
  lines = λ replay. replay.replay.totals.lines;
  IsReady = λ replay. Unit {0};
  fixed = λ replay. replay.replay.content.records;
  Lacks = ⊥;
}

-- what a run without a report leaves of a log whose requests are larger by the front
abbrev pub RunsFronted : {R W : Type 0} → (front : ℕ) → Settings → Result Status RunFault → Course R ReaderState → Course W WriterState → Type 0
RunsFronted front settings = RunsBy (fronted_moments front settings) TellsNothing (are_bad settings)

-- a run without a report of that log, the replay in the end, and what the lines need
pub record EndsWithNeeds (front : ℕ) (settings : Settings) (status : Status) (replay : NeedsReplay) (reader_old reader_new : ReaderState) (writer_old writer_new : WriterState) : Type 0 where
  pub reports : Reports (fronted_moments front settings) TellsNothing status reader_old reader_new writer_old writer_new
  pub stands : StandsFor replay.replay settings (fronted front (reverse reports.lines))
  pub records : replay.replay.content.records ≡ settings.records
  pub needs : AreNeeds (started settings) (fronted front (reverse reports.lines)) replay.needs

-- the status of a run with what its log needs
abbrev pub status_with : Result NeedsRun RunFault → Result Status RunFault
status_with (Ok ended) = Ok ended.status
status_with (Err fault) = Err fault
