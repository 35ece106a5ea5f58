-- A fault of the words is told as it is.
use Rattle.std.proofs.Common.{inl, inr}
use Rattle.clap.specs.Words.{found_of, rows_of}
use Rattle.tlsf_tool.proofs.CommandLineLemmas.{asks_exit, refuses, sites_asks_nothing}
use Rattle.tlsf_tool.proofs.words.asked_sites.Goals as goal

pub returns-in_err-log : goal.returns-in_err-log
returns-in_err-log c =
    asks_exit c.from_residual.result _ c.from_residual.ensures.1 (λ none. sites_asks_nothing (rows_of (found_of c.args.matches.now)) (inl none)) c.in_err-log.ensures.faults

pub returns-in-Some-every : goal.returns-in-Some-every
returns-in-Some-every c = record {
  asked = tt;
  faults = refuses c.usage-in-Some-every.result c.usage-in-Some-every.ensures
      (sites_asks_nothing (rows_of (found_of c.args.matches.now)) (inr (inr (c.in-Some-every._every, c.in-Some-every.ensures.given), c.in-Some.ensures.0)));
}
