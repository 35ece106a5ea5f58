-- A fault of the words is told as it is.
use Rattle.clap.specs.Words.{found_of, rows_of}
use Rattle.tlsf_tool.proofs.CommandLineLemmas.{asks_exit, refuses, report_asks_nothing, every_asks_nothing}
use Rattle.tlsf_tool.proofs.words.asked_on_heap.Goals as goal

pub returns-in_err-settings : goal.returns-in_err-settings
returns-in_err-settings c =
    asks_exit c.from_residual.result _ c.from_residual.ensures.1 (report_asks_nothing (rows_of (found_of c.args.matches.now)) c.args.name) c.in_err-settings.ensures.faults

pub returns-in-Some : goal.returns-in-Some
returns-in-Some c = record {
  asked = tt;
  faults = refuses c.usage.result c.usage.ensures (every_asks_nothing (rows_of (found_of c.args.matches.now)) c.args.name c.requires.no_image c.requires.none (c.in-Some._every, c.in-Some.ensures.given));
}
