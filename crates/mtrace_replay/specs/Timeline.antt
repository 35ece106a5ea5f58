-- What is told of a log over its lines.
use Rattle.std.specs.Prelude.{◌≡◌, ◌⊎◌, ◌↔◌, ℕ, ◌*◌, ◌≤◌, Bool, ◌||◌, ◌==◌, nat_lt, if◌then◌else◌, List, [], ◌∷◌, ◌++◌, map, sum_by}
use Rattle.std.specs.Int.{div_ceil}
use Rattle.std.specs.List.{Contains}
use Rattle.std.specs.List.Sorted.{IsStrictlyIncreasing}
use Rattle.mtrace_replay.specs.declared.heap.point.Point.{Point}
use Rattle.mtrace_replay.specs.Started.{Bare}
use Rattle.mtrace_replay.specs.Moment.{Moment}
use Rattle.mtrace_replay.specs.History.{content_after}
use Rattle.mtrace_replay.specs.Totals.{Measures, asked_bytes_in, blocks_in}
use Rattle.mtrace_replay.specs.Texts.{free_sizes, greatest}
use Rattle.mtrace_replay.specs.Survey.{live_ends}

-- a log is cut in 1 to 10,000 stretches
abbrev pub is_bad_stretches : ℕ → Bool
is_bad_stretches stretches = stretches == 0 || nat_lt 10000 stretches

-- the number of the line with which this many of the log's equal stretches have ended
abbrev pub end_of_stretch : (lines stretches stretch : ℕ) → ℕ
end_of_stretch lines stretches stretch = div_ceil (stretch * lines) stretches

-- a line number is told: 0, the peak's, and where a stretch ends
abbrev pub IsTold : (lines peak stretches line : ℕ) → Type 0
IsTold lines peak stretches line = (line ≡ 0) ⊎ (line ≡ peak) ⊎ ((stretch : ℕ) × (stretch ≤ stretches) × (line ≡ end_of_stretch lines stretches stretch))

-- the line numbers that are told, in rising order
pub record AreTold (lines peak stretches : ℕ) (told : List ℕ) : Type 0 where
  pub rising : IsStrictlyIncreasing told
  pub each : (line : ℕ) → Contains told line ↔ IsTold lines peak stretches line

-- the number behind those that were told, where it is above the last of them
abbrev pub told_later : (told : List ℕ) (last number : ℕ) → List ℕ
told_later told last number = if nat_lt last number then told ++ number ∷ [] else told

-- What is held after the moments, how far the live blocks reach, and what is free.
pub record IsPoint (start : Bare) (past : List Moment) (point : Point) : Type 0 where
  pub bytes : Measures asked_bytes_in past point.bytes
  pub blocks : Measures blocks_in past point.blocks
  pub reach : point.reach ≡ greatest (live_ends (content_after start past))
  pub free : point.free ≡ sum_by (λ size. size) (free_sizes (content_after start past))
  pub largest : point.largest ≡ greatest (free_sizes (content_after start past))

-- the numbers of the points' lines
abbrev pub lines_of : List Point → List ℕ
lines_of points = map (λ point. point.line) points
