-- The log of one heap by size: what the lines of a log ask of it.
use Rattle.std.specs.Prelude.{◌≡◌, ◌⊎◌, ℕ, suc, Bool, true, false, List, [], ◌∷◌, ◌++◌, reverse, Option, Some, None, Ok, if◌then◌else◌}
use Rattle.mtrace_log.specs.declared.event.Event.TheVariants.{Alloc, Free, Old, New}
use Rattle.mtrace_replay.specs.Entry.{Entry}
use Rattle.mtrace_replay.specs.Moment.{ReadLine, Given, Act, idle, give, take, move}
use Rattle.mtrace_replay.specs.History.{held}
use Rattle.mtrace_replay.specs.LedgerReplay.{ledger_moments}
use Rattle.mtrace_replay.specs.OneSize.{ledger_act}
use Rattle.mtrace_replay.specs.declared.heap.settings.Settings.{Settings}
use Rattle.mtrace_replay.specs.Fit.{one_pool}
use Rattle.mtrace_replay.specs.Parts.{is_in, class_at, Part, part_bytes}

-- whether what an address is held under is a block of the part, which has the blocks of lines with these numbers
abbrev pub is_of : (has : ℕ → Bool) → Option Given → Bool
is_of has None = false
is_of has (Some given) = has given.entry.line

-- the line that asks for a block of this size for the entry, at no alignment
abbrev pub asking : (size : ℕ) → Entry → ReadLine
asking size entry = Ok (Alloc entry.at (Some entry.addr) size)

-- The lines for a block that moves, the latest first. `from` and `to`: the part has the old block, and the new one. Within the part
-- it stays a realloc. From part to part it is freed in one and asked for in the other.
abbrev pub moving : (from to : Bool) (size old : ℕ) → Entry → List ReadLine
moving true true size old entry = Ok (New entry.at entry.addr size) ∷ Ok (Old entry.at old) ∷ []
moving true false size old entry = Ok (Free entry.at old) ∷ []
moving false true size old entry = asking size entry ∷ []
moving false false size old entry = []

-- what the part is asked for where this is done, the latest line first
abbrev pub part_lines : (has : ℕ → Bool) (size : ℕ) (held : ℕ → Option Given) → Act → List ReadLine
part_lines has size held idle = []
part_lines has size held (give entry align) = if has entry.line then asking size entry ∷ [] else []
part_lines has size held (take address place) = if is_of has (held address) then Ok (Free None address) ∷ [] else []
part_lines has size held (move old place entry) = moving (is_of has (held old)) (has entry.line) size old entry

-- what the part is asked for by all lines, where no line of the log is refused; the latest line first
unfoldable pub part_log : (has : ℕ → Bool) (size : ℕ) → List ReadLine → List ReadLine
part_log has size [] = []
part_log has size (line ∷ past) = part_lines has size (held (ledger_moments past)) (ledger_act line past) ++ part_log has size past

-- whether the line of a number asked for a block that falls under these ranges
abbrev pub falls_under : (asked : ℕ → Option ℕ) (first last : ℕ) → ℕ → Bool
falls_under asked first last number = is_in first last (asked number)

-- a cut, from this range on, has a part for these ranges
abbrev pub HasPart : (from : ℕ) → List ℕ → (first last : ℕ) → Type 0
HasPart from [] first last = ⊥
HasPart from (end ∷ ends) first last = ((first ≡ from) × (last ≡ end)) ⊎ HasPart (suc end) ends first last

-- the log of the part for these ranges, whose blocks have this size; the first line first
abbrev pub lines_of_part : (size first last : ℕ) → List ReadLine → List ReadLine
lines_of_part size first last lines = reverse (part_log (falls_under (class_at (reverse lines)) first last) size (reverse lines))

-- one pool of the part's blocks, and a record for each
abbrev pub heap_for : Part → Settings
heap_for part = one_pool (part_bytes part) part.blocks
