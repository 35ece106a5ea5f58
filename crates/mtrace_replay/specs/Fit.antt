-- How large a pool a log needs: the sizes that are tried, and what they tell.
use Rattle.std.specs.Prelude.{ℕ, zero, suc, ◌+◌, ◌-◌, ◌*◌, ◌/◌, ◌%◌, ◌^◌, Bool, not, ◌||◌, ◌==◌, nat_lt, min, max, false, List, [], ◌∷◌, ◌++◌, map, length, count_by, Option, Some, None, option_map, if◌then◌else◌, ◌≤◌, ◌≡◌}
use Rattle.std.specs.Int.{div_ceil}
use Rattle.std.specs.List.{range_with_len, find, list_all}
use Rattle.tlsf_class.specs.Classes.{unit, greatest_size}
use Rattle.tlsf_heap.specs.Pools.{most_records}
use Rattle.mtrace_replay.specs.declared.heap.settings.Settings.{Settings}
use Rattle.mtrace_replay.specs.declared.runs.fitted.Fitted.{Fitted}

-- one pool of this many bytes, and this many records
abbrev pub one_pool : (bytes records : ℕ) → Settings
one_pool bytes records = record { pool = bytes; pools = 1; records = records }

-- the greatest pool, and the most records
abbrev pub greatest_settings : Settings
greatest_settings = one_pool greatest_size most_records

-- the records that are enough where this many addresses are held at most
abbrev pub enough_records : ℕ → ℕ
enough_records most = min (2 * most + 3) most_records

-- a step isn't a whole number of units from one to the greatest size
abbrev pub is_bad_step : Option ℕ → Bool
is_bad_step None = false
is_bad_step (Some step) = not (step % unit == 0) || (nat_lt step unit || nat_lt greatest_size step)

-- a whole number of units, and at least one
pub record AreUnits (bytes : ℕ) : Type 0 where
  pub some : unit ≤ bytes
  pub whole : bytes % unit ≡ 0

-- the step; where none is given, the least multiple of the unit from a 64th of the peak on, and at least the unit
abbrev pub step_of : Option ℕ → ℕ → ℕ
step_of None peak = unit * max (div_ceil peak (64 * unit)) 1
step_of (Some step) peak = step

-- the least number of steps, above 0, that reach the peak
abbrev pub first_number : (step peak : ℕ) → ℕ
first_number step peak = max (div_ceil peak step) 1

-- twice as many, or as many as the greatest size has
abbrev pub last_number : (step first : ℕ) → ℕ
last_number step first = min (2 * first) (greatest_size / step)

-- the multiples of the step by these numbers, and those between
abbrev pub multiples : (step from to : ℕ) → List ℕ
multiples step from to = map (λ number. number * step) (range_with_len from (suc to - from))

-- the step, doubled this many times
abbrev pub doubled : (step times : ℕ) → ℕ
doubled step times = step * 2 ^ times

-- The sizes that are tried come in ranges. The first are the multiples of the step from the first number to twice as many.
-- Each other range lies behind the one before, to twice as much, by a step twice as large.
abbrev pub range : (step first times : ℕ) → List ℕ
range step first zero = multiples step first (last_number step first)
range step first (suc times) = multiples (doubled step (suc times)) (suc first) (last_number (doubled step (suc times)) first)

-- the sizes of this many ranges
abbrev pub ranges : (step first times : ℕ) → List ℕ
ranges step first zero = []
ranges step first (suc times) = ranges step first times ++ range step first times

-- a size, and whether a pool of it serves the log
pub record Verdict : Type 0 where
  pub size : ℕ
  pub serves : Bool

-- the first size that serves
abbrev pub least_size : List Verdict → Option ℕ
least_size verdicts = option_map (λ verdict. verdict.size) (find (λ verdict. verdict.serves) verdicts)

-- the first size from which on all serve
abbrev pub safe_size : List Verdict → Option ℕ
safe_size [] = None
safe_size (verdict ∷ verdicts) = if list_all (λ v. v.serves) (verdict ∷ verdicts) then Some verdict.size else safe_size verdicts

-- how many sizes don't serve
abbrev pub refused_sizes : List Verdict → ℕ
refused_sizes verdicts = count_by (λ verdict. not verdict.serves) verdicts

-- what the sizes tell
abbrev pub fitted : List Verdict → Fitted
fitted verdicts = record { least = least_size verdicts; safe = safe_size verdicts; tried = length verdicts; refused = refused_sizes verdicts }
