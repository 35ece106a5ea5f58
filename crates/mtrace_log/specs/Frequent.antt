-- The two frequent forms of a line.
use Rattle.std.specs.Prelude.{◌≡◌, ℕ, List, ◌∷◌, ◌++◌, length, codes, Option, Some, None}
use Rattle.mtrace_log.specs.Bytes.{newline, space}
use Rattle.mtrace_log.specs.Address.{address_text, size_text}
use Rattle.mtrace_log.specs.Location.{IsLocation}
use Rattle.mtrace_log.specs.Spelling.{spell, IsEvent}
use Rattle.mtrace_log.specs.Event.{Event}
use Rattle.mtrace_log.specs.declared.event.Event.TheVariants.{Alloc, Free}
use Rattle.mtrace_log.specs.declared.frequent.Frequent.{Frequent}

-- a block is freed at this location; or one of this many bytes was asked for there, and given
abbrev pub event_at : List ℕ → ℕ → Option ℕ → Event
event_at location address None = Free (Some location) address
event_at location address (Some size) = Alloc (Some location) (Some address) size

-- what stands behind the location and its space
abbrev pub fields_of : ℕ → Option ℕ → List ℕ
fields_of address None = codes "- " ++ address_text address
fields_of address (Some size) = codes "+ " ++ (address_text address ++ space ∷ size_text size)

-- the fields of this address and size are at the front, with their newline
pub record BeginsFields (bytes : List ℕ) (address : ℕ) (size : Option ℕ) (rest : List ℕ) : Type 0 where
  pub valid : (location : List ℕ) → IsLocation location → IsEvent (event_at location address size)
  pub split : bytes ≡ fields_of address size ++ newline ∷ rest

-- the line spells the event of these fields, at a location of this many bytes
pub record IsFrequent (line : List ℕ) (frequent : Frequent) : Type 0 where
  pub location : List ℕ
  pub is_location : IsLocation location
  pub long : length location ≡ frequent.location_length
  pub valid : IsEvent (event_at location frequent.addr frequent.size)
  pub spelled : line ≡ spell (event_at location frequent.addr frequent.size)

-- a frequent line of this many bytes is at the front, with its newline
pub record BeginsFrequent (bytes : List ℕ) (frequent : Frequent) (count : ℕ) : Type 0 where
  pub line : List ℕ
  pub rest : List ℕ
  pub split : bytes ≡ line ++ newline ∷ rest
  pub long : length line ≡ count
  pub says : IsFrequent line frequent
