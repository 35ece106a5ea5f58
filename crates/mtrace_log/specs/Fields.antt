-- What the readers of the fields of a line answer.
use Rattle.std.specs.Prelude.{◌≡◌, ◌≢◌, ℕ, ◌^◌, ◌<◌, ◌≤◌, List, [], ◌∷◌, ◌++◌, length, take, slice_index, ⊤, Option, Some, None, IfSome, MatchOption, Result, Ok, Err}
use Rattle.mtrace_log.specs.Bytes.{space}
use Rattle.std.specs.Char.{digit_char}
use Rattle.mtrace_log.specs.Address.{IsAddress, hex_digits}
use Rattle.mtrace_log.specs.Form.{Form, Numbers, form}
use Rattle.mtrace_log.specs.Event.{Event}
use Rattle.mtrace_log.specs.declared.event.LineFault.{LineFault}
use Rattle.mtrace_log.specs.declared.event.LineFault.TheVariants.{NotALine}

-- the answer is the value that the bytes spell, or none where they spell none
abbrev pub Finds : {X : Type 0} → (X → Type 0) → (X → List ℕ) → List ℕ → Option X → Type 0
Finds {X} IsValue text bytes found = MatchOption found ((x : X) → IsValue x → bytes ≢ text x) (λ x. IsValue x × (bytes ≡ text x))

-- a field ends before these bytes: there are none, or a space is first
abbrev pub EndsField : List ℕ → Type 0
EndsField [] = ⊤
EndsField (b ∷ rest) = b ≡ space

-- this many digits are read at the front, at most 16; behind fewer no digit stands
pub record ReadsDigits (bytes : List ℕ) (number count : ℕ) : Type 0 where
  pub within : count ≤ length bytes
  pub most : count ≤ 16
  pub digits : take count bytes ≡ hex_digits number
  pub ended : count < 16 → (d : ℕ) → d < 16 → slice_index bytes count ≢ digit_char d

-- the bytes spell the value, and then the rest follows, before which a field ends
abbrev pub IsFront : {X : Type 0} → (X → Type 0) → (X → List ℕ) → List ℕ → X → List ℕ → Type 0
IsFront IsValue text bytes x rest = IsValue x × EndsField rest × (bytes ≡ text x ++ rest)

-- the bytes spell no value so
abbrev pub HasNoFront : {X : Type 0} → (X → Type 0) → (X → List ℕ) → List ℕ → Type 0
HasNoFront {X} IsValue text bytes = (x : X) (rest : List ℕ) → IsFront IsValue text bytes x rest → ⊥

-- a pointer is none, or an address
abbrev pub IsPointer : Option ℕ → Type 0
IsPointer pointer = IfSome pointer IsAddress

-- a size is any number of 64 bits
abbrev pub IsSize : ℕ → Type 0
IsSize size = size < 2 ^ 64

-- an alignment is any number that is spelled as an address is
abbrev pub AreNumbers : Numbers → Type 0
AreNumbers (None, size) = IsSize size
AreNumbers (Some align, size) = IsAddress align × IsSize size

-- a pointer, and numbers or none
abbrev pub AreFields : Option ℕ → Option Numbers → Type 0
AreFields pointer numbers = IsPointer pointer × IfSome numbers AreNumbers

-- the answer is the event of that form, or no line where no event has it
abbrev pub HasForm : Form → Result Event LineFault → Type 0
HasForm shape (Ok event) = form event ≡ shape
HasForm shape (Err fault) = (fault ≡ NotALine) × ((event : Event) → form event ≢ shape)
