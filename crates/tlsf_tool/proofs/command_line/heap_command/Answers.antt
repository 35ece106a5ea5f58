-- The subcommand, argument by argument.
use Rattle.std.proofs.Common.{[], ◌∷◌, ap, codes, refl}
use Rattle.std.proofs.lemmas.Result.{IfOk-weaker}
use Rattle.clap.specs.Words.{Rule, Text, rule_of}
use Rattle.clap.specs.declared.builder.arg.Arg.{Arg}
use Rattle.tlsf_tool.proofs.CommandLineLemmas.{changed_arg, more_arg}
use Rattle.tlsf_tool.proofs.command_line.heap_command.Goals as goal

abbrev with_default : Text → Rule → Rule
with_default default rule = record rule { defaults = default ∷ [] }

pub returns : goal.returns
returns c =
    let pool = changed_arg (with_default c.args.pool.now) (codes "pool") _ _ c.pool_option.result c.default_value.result c.pool_option.ensures refl (ap rule_of c.default_value.ensures) (ap (λ (a : Arg). a.global) c.default_value.ensures) in
    let pools = changed_arg (with_default (codes "1")) (codes "pools") _ _ c.pools_option.result c.default_value-2.result c.pools_option.ensures refl (ap rule_of c.default_value-2.ensures) (ap (λ (a : Arg). a.global) c.default_value-2.ensures) in
    let records = changed_arg (with_default c.args.records.now) (codes "records") _ _ c.records_option.result c.default_value-3.result c.records_option.ensures refl (ap rule_of c.default_value-3.ensures) (ap (λ (a : Arg). a.global) c.default_value-3.ensures) in
    let with_pools = more_arg _ _ _ _ _ (more_arg _ _ _ _ _ c.subcommand.ensures pool c.in_ok-arg.ensures) pools c.in_ok-arg-2.ensures in
    let with_records = more_arg _ _ _ _ _ with_pools records c.in_ok-arg-3.ensures in
    IfOk-weaker c.arg-4.result _ _ (λ r. more_arg _ _ _ _ r with_records c.log_word.ensures) c.arg-4.ensures
