-- The one shape of all lines that can name a location.
use Rattle.std.specs.Prelude.{ℕ, List, ◌∷◌, ◌++◌, codes, Option, Some, None}
use Rattle.mtrace_log.specs.Bytes.{space}
use Rattle.mtrace_log.specs.Address.{address_text, pointer_text, size_text}
use Rattle.mtrace_log.specs.Spelling.{location_text}
use Rattle.mtrace_log.specs.Event.{Event}
use Rattle.mtrace_log.specs.declared.event.Event.TheVariants.{Start, End, Alloc, Free, Old, New, Failed, Aligned}

-- an alignment or none, and a size
abbrev pub Numbers : Type 0
Numbers = Option ℕ × ℕ

-- a line that stands alone; or a location or none, the byte that marks the event, a pointer, and numbers or none
pub data Form : Type 0 where
  alone : List ℕ → Form
  marked : Option (List ℕ) → ℕ → Option ℕ → Option Numbers → Form

-- `SIZE`, or `ALIGN SIZE`
abbrev pub numbers_text : Numbers → List ℕ
numbers_text (None, size) = size_text size
numbers_text (Some align, size) = address_text align ++ space ∷ size_text size

-- `PTR`, or `PTR` and the numbers
abbrev pub fields_text : Option ℕ → Option Numbers → List ℕ
fields_text pointer None = pointer_text pointer
fields_text pointer (Some numbers) = pointer_text pointer ++ space ∷ numbers_text numbers

-- the line of a form
abbrev pub form_text : Form → List ℕ
form_text (alone line) = line
form_text (marked location mark pointer numbers) = location_text location ++ mark ∷ space ∷ fields_text pointer numbers

-- the form of an event, with the marks `+`, `-`, `<`, `>`, `!` and `*`
abbrev pub form : Event → Form
form Start = alone (codes "= Start")
form End = alone (codes "= End")
form (Alloc location address size) = marked location 43 address (Some (None, size))
form (Free location address) = marked location 45 (Some address) None
form (Old location address) = marked location 60 (Some address) None
form (New location address size) = marked location 62 (Some address) (Some (None, size))
form (Failed location address size) = marked location 33 address (Some (None, size))
form (Aligned location address align size) = marked location 42 (Some address) (Some (Some align, size))
