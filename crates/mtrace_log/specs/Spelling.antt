-- The one line of each event. The forms are those of glibc's mtrace(3) that this project reads, and one of its
-- own, for an allocation at a multiple of an alignment.
use Rattle.std.specs.Prelude.{ℕ, ◌^◌, ◌<◌, List, [], ◌∷◌, ◌++◌, codes, Option, Some, None, IfSome}
use Rattle.mtrace_log.specs.Bytes.{space}
use Rattle.mtrace_log.specs.Address.{IsAddress, address_text, pointer_text, size_text}
use Rattle.mtrace_log.specs.Location.{IsLocation}
use Rattle.mtrace_log.specs.Event.{Event}
use Rattle.mtrace_log.specs.declared.event.Event.TheVariants.{Start, End, Alloc, Free, Old, New, Failed, Aligned}

-- the longest line of any event, in bytes without its newline
abbrev pub longest_line : ℕ
longest_line = 316

-- `@ LOCATION `, or nothing
abbrev pub location_text : Option (List ℕ) → List ℕ
location_text None = []
location_text (Some location) = codes "@ " ++ (location ++ space ∷ [])

-- the line of an event
abbrev pub spell : Event → List ℕ
spell Start = codes "= Start"
spell End = codes "= End"
spell (Alloc location address size) = location_text location ++ (codes "+ " ++ (pointer_text address ++ space ∷ size_text size))
spell (Free location address) = location_text location ++ (codes "- " ++ address_text address)
spell (Old location address) = location_text location ++ (codes "< " ++ address_text address)
spell (New location address size) = location_text location ++ (codes "> " ++ (address_text address ++ space ∷ size_text size))
spell (Failed location address size) = location_text location ++ (codes "! " ++ (pointer_text address ++ space ∷ size_text size))
spell (Aligned location address align size) = location_text location ++ (codes "* " ++ (address_text address ++ space ∷ (address_text align ++ space ∷ size_text size)))

-- what the fields of an event can hold
abbrev pub IsEvent : Event → Type 0
IsEvent Start = Unit {0}
IsEvent End = Unit {0}
IsEvent (Alloc location address size) = IfSome location IsLocation × IfSome address IsAddress × (size < 2 ^ 64)
IsEvent (Free location address) = IfSome location IsLocation × IsAddress address
IsEvent (Old location address) = IfSome location IsLocation × IsAddress address
IsEvent (New location address size) = IfSome location IsLocation × IsAddress address × (size < 2 ^ 64)
IsEvent (Failed location address size) = IfSome location IsLocation × IfSome address IsAddress × (size < 2 ^ 64)
IsEvent (Aligned location address align size) = IfSome location IsLocation × IsAddress address × IsAddress align × (size < 2 ^ 64)
