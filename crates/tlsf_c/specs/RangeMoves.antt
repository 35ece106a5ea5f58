-- A range of places joins others, or leaves them.
use Rattle.std.specs.Prelude.{◌≡◌, ◌≢◌, ℕ, ◌+◌, ◌%◌, ◌^◌, ◌≤◌, ◌⊎◌, List, Contains}

-- the range of a pool that begins at this place has joined
pub record IsRangeAdded (place bytes : ℕ) (old new : List (ℕ × ℕ)) : Type 0 where
  pub in_units : place % 16 ≡ 0
  pub long : 16 ≤ bytes
  pub ends : place + bytes ≤ 2 ^ 32
  pub elsewhere : (range : ℕ × ℕ) → Contains old range → range.0 ≢ place
  pub has : Contains new (place, bytes)
  pub keeps : (range : ℕ × ℕ) → Contains old range → Contains new range
  pub alone : (range : ℕ × ℕ) → Contains new range → ((place, bytes) ≡ range) ⊎ Contains old range

-- the range that begins at this place has left
pub record IsRangeRemoved (place : ℕ) (old new : List (ℕ × ℕ)) : Type 0 where
  pub keeps : (range : ℕ × ℕ) → Contains old range → range.0 ≢ place → Contains new range
  pub alone : (range : ℕ × ℕ) → Contains new range → Contains old range × (range.0 ≢ place)
