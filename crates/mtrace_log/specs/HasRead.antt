-- What many calls of `next` took of a text, from `before` to `after`, and how it read.
use Rattle.std.specs.Prelude.{◌≡◌, ℕ, List, [], ◌∷◌, ◌++◌, Option, Result, flat_map}
use Rattle.std.specs.List.{AllByRecursion}
use Rattle.std.specs.Io.KnownBytes.{prepend_known, IsAtEnd}
use Rattle.mtrace_log.specs.Bytes.{Lacks, newline}
use Rattle.mtrace_log.specs.Lines.{lines_of, ReadAs}
use Rattle.mtrace_log.specs.Progress.{Stage, Reading, Ended, Faulted}
use Rattle.mtrace_log.specs.Event.{Event}
use Rattle.mtrace_log.specs.declared.event.LineFault.{LineFault}

-- pieces, each with its newline, as one text
abbrev pub whole_lines : List (List ℕ) → List ℕ
whole_lines pieces = flat_map (λ piece. piece ++ newline ∷ []) pieces

-- what was taken is whole lines, and they read so
pub record HasRead (before after : Option (List ℕ)) (events : List (Result Event LineFault)) : Type 0 where
  pub pieces : List (List ℕ)
  pub no_newlines : AllByRecursion (Lacks newline) pieces
  pub read : ReadAs pieces events
  pub taken : before ≡ prepend_known (whole_lines pieces) after

-- what was taken is all of the text, and its lines read so
pub record HasReadAll (before after : Option (List ℕ)) (events : List (Result Event LineFault)) : Type 0 where
  pub text : List ℕ
  pub taken : before ≡ prepend_known text after
  pub at_end : IsAtEnd after
  pub read : ReadAs (lines_of text) events

-- what was taken is whole lines, which read so, and a piece of the next one, which is lost
pub record HasReadBefore (before after : Option (List ℕ)) (events : List (Result Event LineFault)) : Type 0 where
  pub pieces : List (List ℕ)
  pub lost : List ℕ
  pub no_newlines : AllByRecursion (Lacks newline) pieces
  pub no_newline : Lacks newline lost
  pub read : ReadAs pieces events
  pub taken : before ≡ prepend_known (whole_lines pieces ++ lost) after

-- what was taken and how it read, by the stage
abbrev pub HasReadSo : Stage → Option (List ℕ) → Option (List ℕ) → List (Result Event LineFault) → Type 0
HasReadSo Reading before after events = HasRead before after events
HasReadSo Ended before after events = HasReadAll before after events
HasReadSo (Faulted fault) before after events = HasReadBefore before after events
