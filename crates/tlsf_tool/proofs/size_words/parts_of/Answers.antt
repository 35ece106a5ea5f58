-- One part more in each turn, or its fault.
use Rattle.std.proofs.Common.{◌≡◌, suc, ◌+◌, ◌++◌, ◌∷◌, [], List, arith, take, subst, sym}
use Rattle.mtrace_replay.specs.declared.runs.size_parts.PartBounds.{PartBounds}
use Rattle.tlsf_tool.specs.CommandLine.{ArePartTexts}
use Rattle.tlsf_tool.proofs.CommandLineLemmas.{refuses}
use Rattle.tlsf_tool.proofs.PartTexts.{said, one_more, no_parts}
use Rattle.tlsf_tool.proofs.size_words.parts_of.Goals as goal

pub returns-in_default : goal.returns-in_default
returns-in_default c = record {
  asked = tt;
  faults = refuses c.usage.result c.usage.ensures (no_parts c.args.texts.now c.loop-text.text-index _ c.loop-text-test.true c.in_default.ensures.other);
}

pub loop-text-preserved : goal.loop-text-preserved
loop-text-preserved c =
    let i = c.loop-text.text-index in
    let next : suc i ≡ i + 1 = omega arith in
    subst (λ (parts : List PartBounds). ArePartTexts (said (take (i + 1) c.args.texts.now)) parts) (sym c.in-Ok.ensures.items)
    (subst (λ n. ArePartTexts (said (take n c.args.texts.now)) (c.loop-text.parts.items ++ c.in-Some.part ∷ [])) next (one_more c.args.texts.now i _ c.loop-text.parts.items c.in-Some.part c.loop-text-test.true c.loop-text.invariant c.in-Some.ensures.given))
