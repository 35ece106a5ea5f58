use Rattle.std.proofs.Common.{List, Option, refl, sym, ap, ◌∙◌, codes, Bor}
use Rattle.std.specs.Prelude.{option_map}
use Rattle.clap.specs.Words.{Text, found_of, rows_of}
use Rattle.clap.proofs.WalkLemmas.{raw_values-rows}
use Rattle.tlsf_tool.proofs.CommandLineLemmas.{refuses, size_asks_nothing}
use Rattle.tlsf_tool.proofs.PartTexts.{said, no_size}
use Rattle.tlsf_tool.proofs.size_words.asked_size.Goals as goal

-- what the texts that are found say
abbrev all_said : Option (Bor (List (Bor Text))) → Option (List Text)
all_said = option_map (λ texts. said texts.now)

pub asked_size_parts-requires : goal.asked_size_parts-requires
asked_size_parts-requires c = record { told = sym (raw_values-rows (found_of c.args.matches.now) (codes "part")) ∙ sym c.get_strs.ensures ∙ ap all_said c.in-Some.is }

pub returns-in_default-bounds_of : goal.returns-in_default-bounds_of
returns-in_default-bounds_of c =
    let found = found_of c.args.matches.now in
    let none = sym (raw_values-rows found (codes "part")) ∙ sym c.get_strs.ensures ∙ ap all_said c.in_default.is in
    record {
      asked = tt;
      faults = refuses c.usage.result c.usage.ensures (size_asks_nothing (rows_of found) (no_size (rows_of found) none c.in_default-bounds_of.ensures.other));
    }

pub returns : goal.returns
returns c =
    let none = sym (raw_values-rows (found_of c.args.matches.now) (codes "part")) ∙ sym c.get_strs.ensures ∙ ap all_said c.in_default.is in
    record { asked = (refl, c.in-Some-bounds_of.ensures.given, none); faults = tt }
