-- Bounds beside parts, too many parts, and unread ones are refused.
use Rattle.clap.specs.Words.{found_of, rows_of}
use Rattle.tlsf_tool.proofs.CommandLineLemmas.{refuses, asks_exit, size_asks_nothing}
use Rattle.tlsf_tool.proofs.PartTexts.{beside_bounds, too_many, unread_parts}
use Rattle.tlsf_tool.proofs.size_words.asked_size_parts.Goals as goal

pub returns-then-has_bound : goal.returns-then-has_bound
returns-then-has_bound c =
    let rows = rows_of (found_of c.args.matches.now) in
    record {
      asked = tt;
      faults = refuses c.usage.result c.usage.ensures (size_asks_nothing rows (beside_bounds rows c.args.texts.now c.requires.told c.if-has_bound.ensures));
    }

pub returns-then-texts-gt8 : goal.returns-then-texts-gt8
returns-then-texts-gt8 c =
    let rows = rows_of (found_of c.args.matches.now) in
    record {
      asked = tt;
      faults = refuses c.usage-then-texts-gt8.result c.usage-then-texts-gt8.ensures (size_asks_nothing rows (too_many rows c.args.texts.now c.requires.told c.if-texts-gt8.true));
    }

pub returns-in_err-parts : goal.returns-in_err-parts
returns-in_err-parts c =
    let rows = rows_of (found_of c.args.matches.now) in
    asks_exit c.from_residual.result _ c.from_residual.ensures.1 (λ never. size_asks_nothing rows (unread_parts rows c.args.texts.now c.requires.told never)) c.in_err-parts.ensures.faults
