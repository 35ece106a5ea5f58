-- A fault of the words is told as it is.
use Rattle.std.proofs.Common.{inl}
use Rattle.clap.specs.Words.{found_of, rows_of}
use Rattle.tlsf_tool.proofs.CommandLineLemmas.{asks_exit, fit_asks_nothing}
use Rattle.tlsf_tool.proofs.words.asked_fit.Goals as goal

pub returns-in_err-log : goal.returns-in_err-log
returns-in_err-log c =
    asks_exit c.from_residual.result _ c.from_residual.ensures.1 (λ missing. fit_asks_nothing (rows_of (found_of c.args.matches.now)) (inl missing)) c.in_err-log.ensures.faults
