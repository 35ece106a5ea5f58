-- A text is there, and reads as a size or not.
use Rattle.std.specs.Str.Parse.{ParsesUnsigned, ExplainsUnsignedError, HasUnsignedDigitsIfOk}
use Rattle.clap.specs.Words.{found_of}
use Rattle.tlsf_tool.proofs.CommandLineLemmas.{number_read}
use Rattle.tlsf_tool.proofs.option_values.size_of.Goals as goal

pub returns : goal.returns
returns c = number_read (λ bs r. ParsesUnsigned 64 10 bs r × ExplainsUnsignedError 10 bs r × HasUnsignedDigitsIfOk bs r)
    (found_of c.args.matches.now) c.args.id.now 64 c.get_one.result (λ t x g. g.0) c.get_one.ensures.none c.get_one.ensures.value
