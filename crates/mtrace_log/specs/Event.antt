-- An event as contracts see it, whether its location is kept or lies in its line: with the location's bytes.
use Rattle.std.specs.Prelude.{ℕ, List}
use Rattle.mtrace_log.specs.declared.event.Event.{Event as EventAt}

abbrev pub Event : Type 0
Event = EventAt (List ℕ)
