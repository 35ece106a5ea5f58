-- What was written of a text, in words that hold whether or not the writer tells its bytes.
use Rattle.std.specs.Prelude.{◌≡◌, ℕ, List, ◌++◌, Result, Ok, Err}
use Rattle.std.specs.Io.KnownBytes.{append_known}
use Rattle.mtrace_log.specs.Shown.{WriterState}
use Rattle.mtrace_log.specs.Trace.{HasTaken, HasTakenAndFailed}

-- all of the text was taken, and nothing else
abbrev pub Wrote : (old new : WriterState) (text : List ℕ) → Type 0
Wrote old new text = new.taken ≡ append_known old.taken text

-- a beginning of the text was taken, and nothing else
pub record Begins (old new : WriterState) (text : List ℕ) : Type 0 where
  pub beginning : List ℕ
  pub rest : List ℕ
  pub whole : text ≡ beginning ++ rest
  pub wrote : Wrote old new beginning

-- all of the text was put, in pieces
pub record PutsAll (text : List ℕ) (old new : WriterState) : Type 0 where
  pub wrote : Wrote old new text
  pub took : HasTaken old.calls new.calls

-- a beginning of the text was put, in pieces, and then, once and last, the writer failed
pub record PutsBeginning (text : List ℕ) (old new : WriterState) : Type 0 where
  pub begun : Begins old new text
  pub failed : HasTakenAndFailed old.calls new.calls

-- what a call leaves that puts a text: all of it is put, or, where it fails, a beginning
abbrev pub Puts : {T E : Type 0} → Result T E → (text : List ℕ) (old new : WriterState) → Type 0
Puts (Ok done) text old new = PutsAll text old new
Puts (Err failure) text old new = PutsBeginning text old new
