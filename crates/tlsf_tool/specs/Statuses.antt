-- The statuses that the program ends with.
use Rattle.std.specs.Prelude.{◌≡◌, ◌≤◌, ◌⊎◌, ℕ, List, Some, None, Result, Ok, Err}
use Rattle.mtrace_log.specs.Shown.{ReaderState, WriterState}
use Rattle.mtrace_replay.specs.Course.{Course}
use Rattle.mtrace_replay.specs.RunSites.{RunsSites}
use Rattle.mtrace_replay.specs.RunTimeline.{RunsTimeline}
use Rattle.mtrace_replay.specs.RunLedgerTimeline.{RunsLedgerTimeline}
use Rattle.mtrace_replay.specs.RunSiteTimeline.{RunsSiteTimeline}
use Rattle.mtrace_replay.specs.RunFit.{RunsFit}
use Rattle.mtrace_replay.specs.Reporting.{PutsAndFlushes}
use Rattle.tlsf_tool.specs.declared.asked.Rereading.{Rereading}
use Rattle.tlsf_tool.specs.declared.asked.Rereading.TheVariants.{Sites, Timeline, SiteTimeline, Fit}
use Rattle.tlsf_tool.specs.declared.asked.HeapReport.{HeapReport}
use Rattle.tlsf_tool.specs.declared.asked.HeapReport.TheVariants.{Leaks, Peak, Walk}
use Rattle.mtrace_replay.specs.declared.runs.report.Report.{Report}
use Rattle.mtrace_replay.specs.declared.runs.report.Report.TheVariants as report
use Rattle.tlsf_tool.specs.declared.asked.ToolFault.{ToolFault}
use Rattle.tlsf_tool.specs.declared.asked.ToolFault.TheVariants.{Help, Usage, CannotOpen, InputIsOutput, ImageIsOutput, NoRandomBytes, ReadsOnce, ReadsFileOnce, Run}
use Rattle.mtrace_replay.specs.declared.runs.status.Status.{Status}
use Rattle.mtrace_replay.specs.declared.runs.status.Status.TheVariants.{Clean, Found}
use Rattle.mtrace_replay.specs.declared.runs.status.RunFault.{RunFault}
use Rattle.mtrace_replay.specs.declared.runs.status.RunFault.TheVariants.{Read, Write, OutOfMemory, BadSettings, Image}

-- the report of a name
abbrev pub report_of : HeapReport → Report
report_of Leaks = report.Leaks
report_of Peak = report.Peak
report_of Walk = report.Walk

abbrev pub status_of_end : Status → ℕ
status_of_end Clean = 0
status_of_end Found = 1

abbrev pub status_of_run_fault : RunFault → ℕ
status_of_run_fault Read = 3
status_of_run_fault Write = 3
status_of_run_fault OutOfMemory = 4
status_of_run_fault BadSettings = 2
status_of_run_fault Image = 3

-- the status of a run, by its answer
abbrev pub status_of_run : Result Status RunFault → ℕ
status_of_run (Ok status) = status_of_end status
status_of_run (Err fault) = status_of_run_fault fault

-- the status is that of a run of which this is true, and at 0 and 1 nothing is put to the errors
pub record EndsAs {E : Type 0} (IsSo : Result Status RunFault → Type 0) (status : ℕ) (errors_old errors_new : E) : Type 0 where
  pub outcome : Result Status RunFault
  pub told : IsSo outcome
  pub status_is : status_of_run outcome ≡ status
  pub no_errors : status ≤ 1 → errors_new ≡ errors_old

-- the text is put and flushed, or a beginning is put, and the writer failed
abbrev pub PutsHelp : List ℕ → Result Status RunFault → (old new : WriterState) → Type 0
PutsHelp text outcome old new = ((outcome ≡ Ok Clean) ⊎ (outcome ≡ Err Write)) × PutsAndFlushes outcome text old new

-- the run of what reads its log more than once
abbrev pub Rereads : {R W : Type 0} → Rereading → Result Status RunFault → Course R ReaderState → Course W WriterState → Type 0
Rereads (Sites settings) outcome reader writer = RunsSites settings outcome reader writer
Rereads (Timeline None stretches) outcome reader writer = RunsLedgerTimeline stretches outcome reader writer
Rereads (Timeline (Some settings) stretches) outcome reader writer = RunsTimeline settings stretches outcome reader writer
Rereads (SiteTimeline stretches) outcome reader writer = RunsSiteTimeline stretches outcome reader writer
Rereads (Fit front step) outcome reader writer = RunsFit front step outcome reader writer

abbrev pub status_of_fault : ToolFault → ℕ
status_of_fault (Help text) = 0
status_of_fault (Usage text) = 2
status_of_fault (CannotOpen file) = 3
status_of_fault (InputIsOutput file) = 3
status_of_fault (ImageIsOutput file) = 3
status_of_fault NoRandomBytes = 3
status_of_fault ReadsOnce = 2
status_of_fault (ReadsFileOnce log) = 2
status_of_fault (Run fault) = status_of_run_fault fault
