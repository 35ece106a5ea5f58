-- A fault of the words is told as it is.
use Rattle.std.proofs.Common.{inl}
use Rattle.clap.specs.Words.{found_of, rows_of}
use Rattle.tlsf_tool.proofs.CommandLineLemmas.{asks_exit, save_asks_nothing}
use Rattle.tlsf_tool.proofs.words.asked_save.Goals as goal

pub returns-in_err-settings : goal.returns-in_err-settings
returns-in_err-settings c =
    asks_exit c.from_residual.result _ c.from_residual.ensures.1 (λ missing. save_asks_nothing (rows_of (found_of c.args.matches.now)) (inl missing)) c.in_err-settings.ensures.faults
