-- What lines ask the lists of the heap for, by the lowest size of the class.
use Rattle.std.specs.Prelude.{ℕ, max, List, [], ◌∷◌, Option, Some, None, Ok, Err, if◌then◌else◌}
use Rattle.tlsf_class.specs.Classes.{unit}
use Rattle.tlsf_heap.specs.Sizing.{class_size}
use Rattle.mtrace_log.specs.declared.event.Event.TheVariants.{Start, End, Alloc, Free, Old, New, Failed, Aligned}
use Rattle.mtrace_replay.specs.Started.{Bare}
use Rattle.mtrace_replay.specs.Moment.{ReadLine, asked_size}
use Rattle.mtrace_replay.specs.History.{next_moment, moments}
use Rattle.mtrace_replay.specs.Totals.{is_served}

-- the class size of what a line asks for; none where there is no such class, or nothing is asked
abbrev pub class_asked : ReadLine → Option ℕ
class_asked (Err fault) = None
class_asked (Ok Start) = None
class_asked (Ok End) = None
class_asked (Ok (Alloc at address size)) = class_size 1 (asked_size size)
class_asked (Ok (Free at address)) = None
class_asked (Ok (Old at address)) = None
class_asked (Ok (New at address size)) = class_size 1 (asked_size size)
class_asked (Ok (Failed at address size)) = None
class_asked (Ok (Aligned at address align size)) = class_size align (asked_size size)

-- how many bytes a line asks for; 0 where it asks for none
abbrev pub bytes_asked : ReadLine → ℕ
bytes_asked (Err fault) = 0
bytes_asked (Ok Start) = 0
bytes_asked (Ok End) = 0
bytes_asked (Ok (Alloc at address size)) = size
bytes_asked (Ok (Free at address)) = 0
bytes_asked (Ok (Old at address)) = 0
bytes_asked (Ok (New at address size)) = size
bytes_asked (Ok (Failed at address size)) = 0
bytes_asked (Ok (Aligned at address align size)) = size

-- the greater of two class sizes; none where one is missing
abbrev pub greater_class : Option ℕ → Option ℕ → Option ℕ
greater_class (Some size) (Some other) = Some (max size other)
greater_class (Some size) None = None
greater_class None other = None

-- the greatest class size that a served line asks for, the unit where none is served; none where a class is missing
abbrev pub greatest_class : Bare → List ReadLine → Option ℕ
greatest_class start [] = Some unit
greatest_class start (line ∷ past) =
    if is_served (next_moment start line past (moments start past)) then greater_class (greatest_class start past) (class_asked line) else greatest_class start past
