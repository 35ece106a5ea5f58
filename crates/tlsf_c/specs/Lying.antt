-- Where a block lies among ranges of places.
use Rattle.std.specs.Prelude.{ℕ, ◌+◌, ◌<◌, ◌≤◌, List, Contains}

-- the place is in one of the ranges, and bytes from it on end within each range that it is in
pub record LiesIn (place bytes : ℕ) (ranges : List (ℕ × ℕ)) : Type 0 where
  pub range : ℕ × ℕ
  pub of_ranges : Contains ranges range
  pub from : range.0 ≤ place
  pub below : place < range.0 + range.1
  pub ends : (other : ℕ × ℕ) → Contains ranges other → other.0 ≤ place → place < other.0 + other.1 → place + bytes ≤ other.0 + other.1
