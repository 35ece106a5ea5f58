-- The subcommand, argument by argument.
use Rattle.std.proofs.Common.{codes, refl}
use Rattle.std.proofs.lemmas.Result.{IfOk-weaker}
use Rattle.tlsf_tool.proofs.CommandLineLemmas.{changed_arg, more_arg}
use Rattle.tlsf_tool.proofs.command_line.size_command.Goals as goal

pub returns : goal.returns
returns c =
    let blocks = changed_arg (λ rule. rule) (codes "blocks") _ _ c.option.result c.option.result c.option.ensures c.count.ensures refl refl in
    let largest = changed_arg (λ rule. rule) (codes "largest") _ _ c.option-2.result c.option-2.result c.option-2.ensures c.bytes.ensures refl refl in
    let sum = changed_arg (λ rule. rule) (codes "bytes") _ _ c.option-3.result c.option-3.result c.option-3.ensures c.bytes-2.ensures refl refl in
    let align = changed_arg (λ rule. rule) (codes "align") _ _ c.option-4.result c.option-4.result c.option-4.ensures c.value_parser.ensures refl refl in
    let with_largest = more_arg _ _ _ _ _ (more_arg _ _ _ _ _ c.subcommand.ensures blocks c.in_ok-arg.ensures) largest c.in_ok-arg-2.ensures in
    let with_sum = more_arg _ _ _ _ _ with_largest sum c.in_ok-arg-3.ensures in
    let with_align = more_arg _ _ _ _ _ with_sum align c.in_ok-arg-4.ensures in
    let with_front = more_arg _ _ _ _ _ with_align c.front_option.ensures c.in_ok-arg-5.ensures in
    IfOk-weaker c.arg-6.result _ _ (λ r. more_arg _ _ _ _ r with_front c.repeated.ensures) c.arg-6.ensures
