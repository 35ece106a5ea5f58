-- Each bound is looked for in turn.
use Rattle.std.proofs.Common.{codes}
use Rattle.clap.specs.Words.{found_of, rows_of}
use Rattle.tlsf_tool.proofs.CommandLineLemmas.{given_number}
use Rattle.tlsf_tool.proofs.size_words.has_bound.Goals as goal

pub returns-in_default : goal.returns-in_default
returns-in_default c = λ none.
    given_number (rows_of (found_of c.args.matches.now)) (codes "align") 64 c.size_of-align.result c.in_default.field-0-3 c.size_of-align.ensures c.in_default.is-3 none.3

pub returns-in_default-2 : goal.returns-in_default-2
returns-in_default-2 c = λ none.
    given_number (rows_of (found_of c.args.matches.now)) (codes "bytes") 64 c.size_of-sum.result c.in_default.field-0-2 c.size_of-sum.ensures c.in_default.is-2 none.2

pub returns-in_default-3 : goal.returns-in_default-3
returns-in_default-3 c = λ none.
    given_number (rows_of (found_of c.args.matches.now)) (codes "largest") 64 c.size_of-largest.result c.in_default.field-0-1 c.size_of-largest.ensures c.in_default.is-1 none.1

pub returns-in_default-4 : goal.returns-in_default-4
returns-in_default-4 c = λ none.
    given_number (rows_of (found_of c.args.matches.now)) (codes "blocks") 32 c.option_number-blocks.result c.in_default.field-0-0 c.option_number-blocks.ensures c.in_default.is-0 none.0
