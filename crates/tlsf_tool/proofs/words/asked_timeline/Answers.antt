-- A fault of the words is told as it is.
use Rattle.std.proofs.Common.{inl, inr}
use Rattle.clap.specs.Words.{found_of, rows_of}
use Rattle.tlsf_tool.proofs.CommandLineLemmas.{asks_exit, refuses, timeline_asks_nothing}
use Rattle.tlsf_tool.proofs.words.asked_timeline.Goals as goal

pub returns-in_default : goal.returns-in_default
returns-in_default c = record {
  asked = tt;
  faults = refuses c.usage.result c.usage.ensures (timeline_asks_nothing (rows_of (found_of c.args.matches.now)) (inl c.in_default.ensures.other));
}

pub returns-in_err-log : goal.returns-in_err-log
returns-in_err-log c =
    asks_exit c.from_residual.result _ c.from_residual.ensures.1 (λ missing. timeline_asks_nothing (rows_of (found_of c.args.matches.now)) (inr (inl missing))) c.in_err-log.ensures.faults

pub returns-then-has_setting : goal.returns-then-has_setting
returns-then-has_setting c = record {
  asked = tt;
  faults = refuses c.usage-then-has_setting.result c.usage-then-has_setting.ensures (timeline_asks_nothing (rows_of (found_of c.args.matches.now)) (inr (inr (c.if-not-has_flag.ensures, c.if-has_setting.ensures))));
}
