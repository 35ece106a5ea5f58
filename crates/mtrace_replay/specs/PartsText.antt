-- A part, as the text is made of it.
use Rattle.mtrace_replay.specs.declared.parts.text.PartOf.{PartOf}
use Rattle.mtrace_replay.specs.Parts.{Part}

abbrev pub part_in : PartOf → Part
part_in part = record { blocks = part.blocks; size = part.size }
