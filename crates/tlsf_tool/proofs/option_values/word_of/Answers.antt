-- The word is there, since clap asks for it.
use Rattle.std.proofs.Common.{◌≡◌, ◌∙◌, Some, rules, sym, ap}
use Rattle.std.specs.Prelude.{string_bytes}
use Rattle.clap.specs.Words.{Text, found_of}
use Rattle.clap.proofs.WalkLemmas.{first_value-rows}
use Rattle.tlsf_tool.proofs.CommandLineLemmas.{refuses}
use Rattle.tlsf_tool.proofs.option_values.word_of.Goals as goal

pub returns-in_default : goal.returns-in_default
returns-in_default c = record {
  asked = tt;
  faults = refuses _ c.usage.ensures (sym (first_value-rows (found_of c.args.matches.now) c.args.id.now) ∙ sym c.in_default.ensures);
}

pub returns-in-Ok : goal.returns-in-Ok
returns-in-Ok c =
    let same : string_bytes c.in-Ok.word ≡ c.in-Some.word.now = search rules in
    record {
      asked = sym (first_value-rows (found_of c.args.matches.now) c.args.id.now) ∙ sym c.in-Some.ensures ∙ ap (λ (t : Text). Some t) (sym same);
      faults = tt;
    }
