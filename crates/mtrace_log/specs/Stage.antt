-- What the stage of `Lines` stands for.
use Rattle.mtrace_log.specs.Progress.{Stage, Reading, Ended, Faulted}
use Rattle.mtrace_log.specs.declared.lines.Stage.{Stage as LinesStage}
use Rattle.mtrace_log.specs.declared.lines.Stage.TheVariants as stage

-- the stage that contracts see
abbrev pub stage_of : LinesStage → Stage
stage_of stage.Reading = Reading
stage_of stage.Ended = Ended
stage_of (stage.Faulted fault) = Faulted fault
