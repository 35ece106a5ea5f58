-- What a run leaves that saves its heap.
use Rattle.std.specs.Prelude.{◌≡◌, ◌⊎◌, ℕ, List, Result, Ok, Err}
use Rattle.mtrace_log.specs.Shown.{ReaderState, WriterState}
use Rattle.tlsf_heap.specs.Content.{Content}
use Rattle.tlsf_heap.specs.Bare.{bare}
use Rattle.tlsf_heap.specs.Images.Described.{IsImageOf, Saves}
use Rattle.mtrace_replay.specs.declared.runs.report.Report.TheVariants.{Nothing}
use Rattle.mtrace_replay.specs.declared.heap.settings.Settings.{Settings}
use Rattle.mtrace_replay.specs.declared.runs.status.Status.{Status}
use Rattle.mtrace_replay.specs.declared.runs.status.RunFault.{RunFault}
use Rattle.mtrace_replay.specs.declared.runs.status.RunFault.TheVariants.{Image}
use Rattle.mtrace_replay.specs.Course.{Course, shown_before, shown_after}
use Rattle.mtrace_replay.specs.Started.{Bare}
use Rattle.mtrace_replay.specs.Reporting.{PutsAndFlushes}
use Rattle.mtrace_replay.specs.Run.{Runs, HoldsAtEnd}

-- what a call leaves that saves a heap of which this is the content, slots left out
pub record PutsImage {T E : Type 0} (result : Result T E) (content : Bare) (old new : WriterState) : Type 0 where
  pub whole : Content ℕ
  pub content_is : bare whole ≡ content
  pub saves : Saves result whole old new

-- what a call leaves that puts an image of this content, slots left out, and flushes
pub record SavesLast {T E : Type 0} (result : Result T E) (content : Bare) (old new : WriterState) : Type 0 where
  pub whole : Content ℕ
  pub content_is : bare whole ≡ content
  pub image : List ℕ
  pub is_image : IsImageOf whole image
  pub put : PutsAndFlushes result image old new

-- the log was replayed to its end, and the last content was saved, or the image's writer failed
pub record EndsWithImage {R W I : Type 0} (settings : Settings) (status : Status) (result : Result Status RunFault)
    (reader : Course R ReaderState) (writer : Course W WriterState) (image : Course I WriterState) : Type 0 where
  pub content : Bare
  pub replays : HoldsAtEnd settings status content (shown_before reader) (shown_after reader) (shown_before writer) (shown_after writer)
  pub saves : SavesLast result content (shown_before image) (shown_after image)
  pub answer : (result ≡ Ok status) ⊎ (result ≡ Err Image)

-- What a run that saves its heap leaves: first a run without a report. Where that fails, this is the answer, and nothing was asked of the
-- image's writer; else the last content is saved.
pub record RunsAndSaves {R W I : Type 0} (settings : Settings) (result : Result Status RunFault)
    (reader : Course R ReaderState) (writer : Course W WriterState) (image : Course I WriterState) : Type 0 where
  pub run : Result Status RunFault
  pub runs : Runs Nothing settings run reader writer
  pub run_fault : (fault : RunFault) → run ≡ Err fault → (result ≡ Err fault) × (image.new ≡ image.old)
  pub finished : (status : Status) → run ≡ Ok status → EndsWithImage settings status result reader writer image
