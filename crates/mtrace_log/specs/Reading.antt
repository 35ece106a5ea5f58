-- What a line reads as.
use Rattle.std.specs.Prelude.{◌≡◌, ◌≢◌, ℕ, ◌<◌, ◌≤◌, List, length, Result, Ok, Err}
use Rattle.mtrace_log.specs.Spelling.{spell, IsEvent, longest_line}
use Rattle.mtrace_log.specs.Event.{Event}
use Rattle.mtrace_log.specs.declared.event.LineFault.{LineFault}
use Rattle.mtrace_log.specs.declared.event.LineFault.TheVariants.{TooLong, NotALine}

-- a line reads as the event whose one line it is, as too long, or as no line at all
abbrev pub ReadsAs : List ℕ → Result Event LineFault → Type 0
ReadsAs bytes (Ok event) = IsEvent event × (bytes ≡ spell event)
ReadsAs bytes (Err TooLong) = longest_line < length bytes
ReadsAs bytes (Err NotALine) = (length bytes ≤ longest_line) × ((event : Event) → IsEvent event → bytes ≢ spell event)
