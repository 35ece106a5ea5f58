-- What a buffer holds, and how a line is taken of it.
use Rattle.std.specs.Prelude.{◌≡◌, ℕ, List, ◌∷◌, ◌++◌, Bool, MatchBool}
use Rattle.mtrace_log.specs.Bytes.{Lacks, newline}

-- the bytes that are unread, and the line that was taken last
pub record Buffered : Type 0 where
  pub unread : List ℕ
  pub line : List ℕ

-- the unread bytes before the first newline were taken as a line, with the newline; or there is none, and nothing is changed
abbrev pub TakesBufferedLine : Bool → Buffered → Buffered → Type 0
TakesBufferedLine taken old new = MatchBool taken
    (Lacks newline new.line × (old.unread ≡ new.line ++ newline ∷ new.unread))
    (Lacks newline old.unread × (new ≡ old))
