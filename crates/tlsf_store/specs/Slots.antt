-- The word of a link, which is the slot of a record or none.
use Rattle.std.specs.Prelude.{ℕ, ◌==◌, if◌then◌else◌, Option, Some, None}

-- the word of a missing link
abbrev pub missing : ℕ
missing = 65535

-- the link of a word
abbrev pub link_of : ℕ → Option ℕ
link_of word = if word == missing then None else Some word
