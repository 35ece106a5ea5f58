-- The option's word is read from the matches.
use Rattle.std.proofs.Common.{◌∙◌, sym}
use Rattle.clap.specs.Words.{found_of, rows_of}
use Rattle.clap.proofs.WalkLemmas.{first_value-rows}
use Rattle.tlsf_tool.proofs.CommandLineLemmas.{flag_read, flag_missing}
use Rattle.tlsf_tool.proofs.words.has_flag.Goals as goal

pub returns-in-Some : goal.returns-in-Some
returns-in-Some c = flag_read (rows_of (found_of c.args.matches.now)) c.args.id.now c.in-Some.word.now c.eq.result
    (sym (first_value-rows (found_of c.args.matches.now) c.args.id.now) ∙ sym c.in-Some.ensures) c.eq.ensures

pub returns-in-None : goal.returns-in-None
returns-in-None c = flag_missing (rows_of (found_of c.args.matches.now)) c.args.id.now
    (sym (first_value-rows (found_of c.args.matches.now) c.args.id.now) ∙ sym c.in-None.ensures)
