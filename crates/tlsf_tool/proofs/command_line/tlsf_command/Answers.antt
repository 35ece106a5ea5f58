-- The subcommands one behind the other.
use Rattle.std.proofs.lemmas.Result.{IfOk-weaker}
use Rattle.tlsf_tool.specs.CommandLine.{check_line}
use Rattle.tlsf_tool.proofs.CommandLineLemmas.{line_of}
use Rattle.tlsf_tool.proofs.command_line.tlsf_command.Goals as goal

pub returns : goal.returns
returns c =
    IfOk-weaker c.with-9.result _ _
    (λ r h. line_of _ _ _ _ _ _ _ _ _ _ c.in_ok-bare.ensures (c.in_ok-leaks.ensures _ c.ledger_command.ensures) (c.in_ok-peak.ensures _ c.ledger_command-2.ensures)
    (c.in_ok-walk.ensures _ c.walk_command.ensures) (c.in_ok-sites.ensures _ c.sites_command.ensures) (c.in_ok-timeline.ensures _ c.timeline_command.ensures) (c.in_ok-fit.ensures _ c.fit_command.ensures)
    (c.in_ok-size.ensures _ c.size_command.ensures) (c.in_ok-save.ensures _ c.save_command.ensures) h)
    (c.with-9.ensures check_line c.check_command.ensures)
