-- A number of heaps is read, or none is named.
use Rattle.std.proofs.Common.{inl, inr}
use Rattle.clap.specs.Words.{found_of, rows_of}
use Rattle.tlsf_tool.proofs.CommandLineLemmas.{asks_exit, refuses, fit_asks_nothing}
use Rattle.tlsf_tool.proofs.words.asked_parts.Goals as goal

pub returns-in-Some : goal.returns-in-Some
returns-in-Some c = record {
  asked = tt;
  faults = refuses c.usage.result c.usage.ensures (fit_asks_nothing (rows_of (found_of c.args.matches.now)) (inr ((c.args.heaps, c.requires.heaps), (c.in-Some._step, c.in-Some.ensures.given))));
}

pub returns-in_err-log : goal.returns-in_err-log
returns-in_err-log c =
    asks_exit c.from_residual.result _ c.from_residual.ensures.1 (λ missing. fit_asks_nothing (rows_of (found_of c.args.matches.now)) (inl missing)) c.in_err-log.ensures.faults
