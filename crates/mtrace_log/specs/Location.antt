-- The bytes of a location.
use Rattle.std.specs.Prelude.{◌≢◌, slice_index, ℕ, ◌<◌, ◌≤◌, ◌==◌, ◌||◌, nat_le, Bool, List, length}
use Rattle.std.specs.List.{AllByRecursion}

-- a byte that can stand in a location: neither blank nor a control byte
abbrev pub IsLocationByte : ℕ → Type 0
IsLocationByte b = (0x20 < b) × (b ≢ 0x7F)

-- any other byte
abbrev pub is_blank : ℕ → Bool
is_blank b = nat_le b 0x20 || (b == 0x7F)

-- the greatest number of bytes in a location
abbrev pub longest_location : ℕ
longest_location = 255

-- a location is some of these bytes, and not too many
pub record IsLocation (bytes : List ℕ) : Type 0 where
  pub some : 0 < length bytes
  pub short : length bytes ≤ longest_location
  pub allowed : AllByRecursion IsLocationByte bytes

-- the bytes before it can stand in a location, and the one there, if there is one, can't
pub record EndsLocation (bytes : List ℕ) (end : ℕ) : Type 0 where
  pub within : end ≤ length bytes
  pub allowed : (k : ℕ) → k < end → IsLocationByte (slice_index bytes k)
  pub ended : end < length bytes → ¬ IsLocationByte (slice_index bytes end)
