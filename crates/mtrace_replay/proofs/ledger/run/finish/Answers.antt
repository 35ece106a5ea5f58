-- The status is of what is held, and all is put before the flush.
use Rattle.std.proofs.Common.{rules, List, length, ◌++◌, ◌≡◌, ◌||◌, subst, ap, ◌∙◌}
use Rattle.std.specs.Prelude.{nat_lt, IfOk, if◌then◌else◌}
use Rattle.mtrace_replay.specs.declared.held.diagnostic.Diagnostic.{Diagnostic}
use Rattle.mtrace_replay.specs.declared.runs.status.Status.{Status}
use Rattle.mtrace_replay.specs.declared.runs.status.Status.TheVariants.{Clean, Found}
use Rattle.mtrace_replay.specs.Moment.{half}
use Rattle.mtrace_replay.specs.Following.{has_some}
use Rattle.mtrace_replay.specs.Prepared.{prepared_text}
use Rattle.mtrace_replay.specs.Reporting.{PutsAndFlushes}
use Rattle.mtrace_replay.specs.Texts.{diagnostics_text}
use Rattle.mtrace_replay.proofs.Running.RunLemmas.{some_held}
use Rattle.mtrace_replay.proofs.ledger.run.finish.Goals as goal

pub returns : goal.returns
returns g c =
    let writes = g.W.Sink.shown in
    let replay = c.args.replay.now in
    let told = prepared_text replay c.args.prepared.now in
    let P : List Diagnostic → Type 0 = λ last. PutsAndFlushes c.flush_behind.result (diagnostics_text last ++ told) (writes c.args.writer.now) (writes c.flush_behind.new.writer) in
    let many : c.len.result ≡ length replay.all = search rules in
    let status_is = c.status_at_end-status.ensures
    ∙ ap (λ (last : List Diagnostic). if c.args.has_diagnostics || (has_some last || nat_lt 0 c.len.result) then Found else Clean) c.finish-diagnostics.ensures
    ∙ ap (λ b. if c.args.has_diagnostics || (has_some (half replay.lines replay.pending) || b) then Found else Clean) (some_held replay.all c.len.result many) in
    record {
      put = subst P c.finish-diagnostics.ensures (c.flush_behind.ensures.flushed (writes c.args.writer.now) _ c.put_end-put.ensures);
      status = subst (λ (s : Status). IfOk c.flush_behind.result (λ answered. answered ≡ s)) status_is c.flush_behind.ensures.status;
      fault = c.flush_behind.ensures.fault;
    }
