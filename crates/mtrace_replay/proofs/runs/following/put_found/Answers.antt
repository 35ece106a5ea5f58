-- Where nothing is wrong nothing is put.
use Rattle.std.proofs.Common.{List, sym, subst, ap, ◌∙◌}
use Rattle.mtrace_log.specs.Output.{Wrote}
use Rattle.mtrace_log.specs.declared.call.Call.TheVariants.{Took}
use Rattle.mtrace_log.proofs.TraceLemmas.{moved_none}
use Rattle.mtrace_log.proofs.Writing.{Wrote-nothing}
use Rattle.mtrace_replay.specs.declared.held.diagnostic.Diagnostic.{Diagnostic}
use Rattle.mtrace_replay.specs.Texts.{diagnostics_text}
use Rattle.mtrace_replay.specs.Following.{has_some}
use Rattle.mtrace_replay.proofs.Running.FollowingLemmas.{no_findings, some_findings}
use Rattle.mtrace_replay.proofs.runs.following.put_found.Goals as goal

pub returns-then-is_empty : goal.returns-then-is_empty
returns-then-is_empty g c =
    let writer = g.W.Sink.shown c.args.writer.now in
    let none = no_findings c.args.findings.now (sym c.is_empty.ensures ∙ c.if-is_empty.true) in
    record {
      put = record {
        wrote = subst (λ (all : List Diagnostic). Wrote writer writer (diagnostics_text all)) (sym none) (Wrote-nothing writer);
        took = moved_none Took writer.calls;
      };
      found = sym (ap has_some none);
      cleared = none;
    }

pub returns : goal.returns
returns g c = record {
  put = c.in_ok-put_findings.ensures.put;
  found = some_findings c.args.findings.now (sym c.is_empty.ensures ∙ c.if-is_empty.false);
  cleared = c.put_findings.ensures.cleared;
}
