-- An option of a heap beside it is refused.
use Rattle.std.proofs.Common.{rules}
use Rattle.clap.specs.Words.{found_of, rows_of}
use Rattle.tlsf_tool.specs.declared.asked.HeapReport.TheVariants.{Walk}
use Rattle.tlsf_tool.proofs.CommandLineLemmas.{asks_exit, refuses, report_asks_nothing, image_asks_nothing}
use Rattle.tlsf_tool.proofs.words.asked_image.Goals as goal

pub returns-in_err-settings : goal.returns-in_err-settings
returns-in_err-settings c =
    asks_exit c.from_residual.result _ c.from_residual.ensures.1 (report_asks_nothing (rows_of (found_of c.args.matches.now)) Walk) c.in_err-settings.ensures.faults

pub returns-then-ne : goal.returns-then-ne
returns-then-ne c = record {
  asked = tt;
  faults = refuses c.usage.result c.usage.ensures
      (image_asks_nothing (rows_of (found_of c.args.matches.now)) c.in_ok-settings.settings c.requires.image c.in_ok-settings.ensures.asked.0 (λ is. search rules));
}
