-- The status is of what is held, and all is put before the flush.
use Rattle.std.proofs.Common.{List, ◌++◌, ◌≡◌, ◌||◌, subst, ap, ◌∙◌}
use Rattle.std.specs.Prelude.{nat_lt, IfOk, if◌then◌else◌}
use Rattle.mtrace_replay.specs.declared.held.diagnostic.Diagnostic.{Diagnostic}
use Rattle.mtrace_replay.specs.declared.runs.status.Status.{Status}
use Rattle.mtrace_replay.specs.declared.runs.status.Status.TheVariants.{Clean, Found}
use Rattle.mtrace_replay.specs.Moment.{half}
use Rattle.mtrace_replay.specs.Following.{has_some}
use Rattle.mtrace_replay.specs.Replay.{entries}
use Rattle.mtrace_replay.specs.Reporting.{PutsAndFlushes}
use Rattle.mtrace_replay.specs.Texts.{diagnostics_text, report_text}
use Rattle.mtrace_replay.proofs.Running.RunLemmas.{some_held}
use Rattle.mtrace_replay.proofs.runs.run.finish.Goals as goal

pub returns-clause-finished : goal.returns-clause-finished
returns-clause-finished g c =
    let writes = g.W.Sink.shown in
    let replay = c.args.replay.now in
    let told = report_text c.args.report (entries replay) replay.totals replay.content in
    let P : List Diagnostic → Type 0 = λ last. PutsAndFlushes c.flush_behind.result (diagnostics_text last ++ told) (writes c.args.writer.now) (writes c.flush_behind.new.writer) in
    let status_is = c.status_at_end-status.ensures
    ∙ ap (λ (last : List Diagnostic). if c.args.has_diagnostics || (has_some last || nat_lt 0 c.blocks-2.result) then Found else Clean) c.in-Ok.ensures.diagnostics
    ∙ ap (λ b. if c.args.has_diagnostics || (has_some (half replay.totals.lines replay.pending) || b) then Found else Clean) (some_held (entries replay) c.blocks-2.result c.blocks-2.ensures.len) in
    record {
      put = subst P c.in-Ok.ensures.diagnostics (c.flush_behind.ensures.flushed (writes c.args.writer.now) _ c.put_end-put.ensures.put);
      status = subst (λ (s : Status). IfOk c.flush_behind.result (λ answered. answered ≡ s)) status_is c.flush_behind.ensures.status;
      fault = c.flush_behind.ensures.fault;
    }
