-- The lines of a log that tell the time, and have no effect: `@ t1234 ! (nil) 0`, in milliseconds.
use Rattle.std.specs.Prelude.{ℕ, ◌/◌, ◌^◌, ◌&&◌, ◌==◌, nat_lt, max, List, [], ◌∷◌, length, Option, Some, None, Ok, if◌then◌else◌}
use Rattle.std.specs.Option.{option_or}
use Rattle.std.specs.Str.{all_ascii_digits}
use Rattle.std.specs.Str.Parse.{digits_value}
use Rattle.mtrace_log.specs.declared.event.Event.TheVariants.{Failed}
use Rattle.mtrace_replay.specs.Moment.{ReadLine}

-- the number that decimal digits spell, where it has 64 bits
abbrev pub spelled : List ℕ → Option ℕ
spelled digits = if nat_lt 0 (length digits) && (all_ascii_digits digits && nat_lt (digits_value 10 digits) (2 ^ 64)) then Some (digits_value 10 digits) else None

-- the number behind this letter in the location of a line that has no effect
abbrev pub number_behind : (letter : ℕ) → List ℕ → Option ℕ
number_behind letter [] = None
number_behind letter (first ∷ digits) = if first == letter then spelled digits else None

abbrev pub marked : (letter : ℕ) → ReadLine → Option ℕ
marked letter (Ok (Failed (Some at) None size)) = if size == 0 then number_behind letter at else None
marked letter line = None

-- the time that a line tells: `@ t1234 ! (nil) 0`
abbrev pub time_told : ReadLine → Option ℕ
time_told = marked 116

-- the time of a line that asks for a snapshot: `@ n1234 ! (nil) 0`
abbrev pub asked_now : ReadLine → Option ℕ
asked_now = marked 110

-- how many spans of this many milliseconds are over by then
abbrev pub spans_by : (every : ℕ) → Option ℕ → ℕ
spans_by every None = 0
spans_by every (Some time) = time / every

-- how many are over by the latest time that lines tell
abbrev pub spans_over : (every : ℕ) → List ReadLine → ℕ
spans_over every [] = 0
spans_over every (line ∷ past) = max (spans_over every past) (spans_by every (time_told line))

-- the time of a snapshot behind lines, of which the latest comes first: that asks for one, or is the first to tell that one more span is over
abbrev pub snapshot_time : (every : ℕ) → List ReadLine → Option ℕ
snapshot_time every [] = None
snapshot_time every (line ∷ past) = option_or (asked_now line) (if nat_lt (spans_over every past) (spans_by every (time_told line)) then time_told line else None)
