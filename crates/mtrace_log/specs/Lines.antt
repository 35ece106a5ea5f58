-- The lines of a text.
use Rattle.std.specs.Prelude.{ℕ, ◌∷◌, [], List, Result, ◌==◌, if◌then◌else◌, ⊤}
use Rattle.std.specs.List.{onto_first}
use Rattle.mtrace_log.specs.Bytes.{newline}
use Rattle.mtrace_log.specs.Reading.{ReadsAs}
use Rattle.mtrace_log.specs.Event.{Event}
use Rattle.mtrace_log.specs.declared.event.LineFault.{LineFault}

-- The pieces between newlines, and behind the last newline what is left, if anything is. A newline
-- ends an empty line before the lines of the rest; any other byte comes onto the first of them.
abbrev pub lines_of : List ℕ → List (List ℕ)
lines_of [] = []
lines_of (b ∷ text) = if b == newline then [] ∷ lines_of text else onto_first b (lines_of text)

-- each line reads as its answer, in order, one answer a line
abbrev pub ReadAs : List (List ℕ) → List (Result Event LineFault) → Type 0
ReadAs [] [] = ⊤
ReadAs [] (answer ∷ answers) = ⊥
ReadAs (line ∷ lines) [] = ⊥
ReadAs (line ∷ lines) (answer ∷ answers) = ReadsAs line answer × ReadAs lines answers
