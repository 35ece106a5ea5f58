-- Each setting is looked for in turn.
use Rattle.std.proofs.Common.{codes}
use Rattle.clap.specs.Words.{found_of, rows_of}
use Rattle.tlsf_tool.proofs.CommandLineLemmas.{given_number}
use Rattle.tlsf_tool.proofs.option_values.has_setting.Goals as goal

pub returns-in_default : goal.returns-in_default
returns-in_default c = λ none.
    given_number (rows_of (found_of c.args.matches.now)) (codes "records") 32 c.option_number-records.result c.in_default.field-0-2 c.option_number-records.ensures c.in_default.is-2 none.2

pub returns-in_default-2 : goal.returns-in_default-2
returns-in_default-2 c = λ none.
    given_number (rows_of (found_of c.args.matches.now)) (codes "pools") 32 c.option_number-pools.result c.in_default.field-0-1 c.option_number-pools.ensures c.in_default.is-1 none.1

pub returns-in_default-3 : goal.returns-in_default-3
returns-in_default-3 c = λ none.
    given_number (rows_of (found_of c.args.matches.now)) (codes "pool") 64 c.size_of-pool.result c.in_default.field-0-0 c.size_of-pool.ensures c.in_default.is-0 none.0
