-- Both numbers are read, or the text is none.
use Rattle.std.proofs.Common.{arith, subst, sym}
use Rattle.clap.specs.Words.{Text}
use Rattle.tlsf_tool.specs.CommandLine.{IsNumberText}
use Rattle.tlsf_tool.proofs.size_words.part_of.Goals as goal

pub returns-in_err-blocks-2 : goal.returns-in_err-blocks-2
returns-in_err-blocks-2 c =
    let cut = c.in_ok-blocks.ensures.byte (omega arith) (λ w o f. f) in
    rw c.from_residual-in_err-blocks-2.ensures (record {
      given = tt;
      other = λ part has. c.in_err-blocks-2.ensures.other part.blocks (subst (λ (text : Text). IsNumberText text 32 part.blocks) (sym cut.0) has.blocks);
    })
