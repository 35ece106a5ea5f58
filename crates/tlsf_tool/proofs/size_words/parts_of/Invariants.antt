use Rattle.std.proofs.Common.{take}
use Rattle.tlsf_tool.specs.CommandLine.{ArePartTexts}
use Rattle.tlsf_tool.proofs.PartTexts.{said}
use Rattle.tlsf_tool.proofs.size_words.parts_of.Given as goal

-- the first texts are of these parts
abbrev pub invariant-loop-text : goal.invariant-loop-text
invariant-loop-text l = ArePartTexts (said (take l.text-index l.texts)) l.parts.items
