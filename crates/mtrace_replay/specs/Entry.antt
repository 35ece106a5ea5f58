-- An entry as contracts see it, whether its location is kept or lies in its line: with the location's bytes.
use Rattle.std.specs.Prelude.{ℕ, List}
use Rattle.mtrace_replay.specs.declared.held.entry.Entry.{Entry as EntryAt}

abbrev pub Entry : Type 0
Entry = EntryAt (List ℕ)
