-- The locations of a log, by number.
use Rattle.std.specs.Prelude.{◌≡◌, ℕ, List, Option, None, Some, slice_get}
use Rattle.std.specs.Option.{IsSome}

-- each location keeps its number
abbrev pub Extends : List (List ℕ) → List (List ℕ) → Type 0
Extends old new = (number : ℕ) (bytes : List ℕ) → slice_get old number ≡ Some bytes → slice_get new number ≡ Some bytes

-- the location of that number, if there is a number
abbrev pub location_of : List (List ℕ) → Option ℕ → Option (List ℕ)
location_of locations None = None
location_of locations (Some number) = slice_get locations number

-- the number is that of a location
abbrev pub HasLocation : List (List ℕ) → Option ℕ → Type 0
HasLocation locations location = (number : ℕ) → location ≡ Some number → IsSome (slice_get locations number)
