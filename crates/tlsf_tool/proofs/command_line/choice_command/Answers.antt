-- The subcommand, argument by argument.
use Rattle.std.proofs.lemmas.Result.{IfOk-weaker}
use Rattle.tlsf_tool.proofs.CommandLineLemmas.{more_arg}
use Rattle.tlsf_tool.proofs.command_line.choice_command.Goals as goal

pub returns : goal.returns
returns c =
    let with_pools = more_arg _ _ _ _ _ (more_arg _ _ _ _ _ c.subcommand.ensures c.pool_option.ensures c.in_ok-arg.ensures) c.pools_option.ensures c.in_ok-arg-2.ensures in
    let with_records = more_arg _ _ _ _ _ with_pools c.records_option.ensures c.in_ok-arg-3.ensures in
    IfOk-weaker c.arg-4.result _ _ (λ r. more_arg _ _ _ _ r with_records c.log_word.ensures) c.arg-4.ensures
