-- What the buffer of a line holds, and how a piece of a text ended.
use Rattle.std.specs.Prelude.{◌≡◌, ℕ, ◌<◌, List, [], ◌∷◌, ◌++◌, length, Option, Some, None, MatchBool, if◌then◌else◌}
use Rattle.std.specs.Io.KnownBytes.{prepend_known, IsAtEnd}
use Rattle.mtrace_log.specs.Bytes.{Lacks, newline}
use Rattle.mtrace_log.specs.Spelling.{longest_line}
use Rattle.mtrace_log.specs.Trace.{HasGiven, HasGivenAll, HasGivenAndFailed}
use Rattle.mtrace_log.specs.declared.call.Call.{Call}
use Rattle.mtrace_log.specs.declared.line_buffer.LineBuffer.{LineBuffer}
use Rattle.mtrace_log.specs.declared.pieces.Stop.{Stop}
use Rattle.mtrace_log.specs.declared.pieces.Stop.TheVariants.{Newline, End, Failed}

-- the buffer holds the piece, or knows that it is too long to be kept
abbrev pub Holds : LineBuffer → List ℕ → Type 0
Holds buffer piece = MatchBool buffer.too_long (longest_line < length piece) (buffer.bytes.items ≡ piece)

-- the bytes of a line, where they are few enough to be kept
abbrev pub kept_bytes : LineBuffer → Option (List ℕ)
kept_bytes buffer = if buffer.too_long then None else Some buffer.bytes.items

-- a piece was taken from the text: with its newline, or up to the end, or until the reader failed
abbrev pub TakesUpTo : Stop → List ℕ → Option (List ℕ) → Option (List ℕ) → Type 0
TakesUpTo Newline piece before after = before ≡ prepend_known (piece ++ newline ∷ []) after
TakesUpTo End piece before after = (before ≡ prepend_known piece after) × IsAtEnd after
TakesUpTo Failed piece before after = before ≡ prepend_known piece after

-- the outcomes of the calls of the reader for it
abbrev pub CallsUpTo : Stop → List Call → List Call → Type 0
CallsUpTo Newline old new = HasGiven old new
CallsUpTo End old new = HasGivenAll old new
CallsUpTo Failed old new = HasGivenAndFailed old new

-- one piece without newline, that isn't empty, was taken and is in the buffer
pub record TakesPiece (buffer : LineBuffer) (stop : Stop) (before after : Option (List ℕ)) : Type 0 where
  pub piece : List ℕ
  pub some : 0 < length piece
  pub no_newline : Lacks newline piece
  pub held : Holds buffer piece
  pub taken : TakesUpTo stop piece before after
