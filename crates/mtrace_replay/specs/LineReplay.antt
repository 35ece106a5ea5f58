-- What every replay of a log's lines says of itself.
use Rattle.std.specs.Prelude.{◌≡◌, ℕ, Bool, true, false, List, [], ◌∷◌, ◌++◌, Result, Ok, Err, OnOk, OnErr}
use Rattle.mtrace_log.specs.Shown.{WriterState}
use Rattle.mtrace_log.specs.Output.{PutsAll, PutsBeginning}
use Rattle.mtrace_replay.specs.declared.held.diagnostic.Diagnostic.{Diagnostic}
use Rattle.mtrace_replay.specs.declared.runs.line_replay.TellFault.{TellFault}
use Rattle.mtrace_replay.specs.declared.runs.line_replay.TellFault.TheVariants.{Write, OutOfMemory}
use Rattle.mtrace_replay.specs.Texts.{diagnostics_text}
use Rattle.mtrace_replay.specs.Moment.{ReadLine}

pub record LineRules (R : Type 0) : Type 1 where
  -- what it begins on, as the settings of a heap
  pub Start : Type 0
  -- it stands for these lines, the latest first
  pub Stands : Start → R → List ReadLine → Type 0
  -- all diagnostics of lines in the order found, where the latest line comes first
  pub noted : Start → List ReadLine → List Diagnostic
  -- this text is put of lines, where the latest line comes first
  pub Tells : Start → List ReadLine → List ℕ → Type 0
  -- how many lines there were
  pub lines : R → ℕ
  -- it can take one more line
  pub IsReady : R → Type 0
  -- a number that no line changes, as how many records a heap has
  pub fixed : R → ℕ
  -- it may lack memory
  pub Lacks : Type 0

-- the line of this number was taken, unless memory was refused
pub record TakesLine {R E : Type 0} (rules : LineRules R) (number : ℕ) (line : ReadLine) (diagnostics : List Diagnostic) (result : Result (Unit {0}) E) (old new : R) : Type 0 where
  pub stands : OnOk result ((start : rules.Start) (past : List ReadLine) → rules.Stands start old past → rules.Stands start new (line ∷ past))
  pub told : OnOk result ((start : rules.Start) (past : List ReadLine) → rules.Stands start old past → rules.noted start (line ∷ past) ≡ rules.noted start past ++ diagnostics)
  pub counted : OnOk result (rules.lines new ≡ number)
  pub ready : OnOk result (rules.IsReady new)
  pub fixed : rules.fixed new ≡ rules.fixed old
  pub memory : OnErr result rules.Lacks

-- whether the list has an item
abbrev pub has_some : {A : Type 0} → List A → Bool
has_some [] = false
has_some (first ∷ more) = true

-- the text of the diagnostics of lines, of which the latest comes first, and no other
abbrev pub Notes : (noted : List ReadLine → List Diagnostic) → List ReadLine → List ℕ → Type 0
Notes noted past text = text ≡ diagnostics_text (noted past)

-- the text goes behind that of the lines before, for the latest line that a replay stands for, whose diagnostics these are
abbrev pub AddsTo : {R : Type 0} (rules : LineRules R) (replay : R) (its : List Diagnostic) (text : List ℕ) → Type 0
AddsTo rules replay its text = (start : rules.Start) (line : ReadLine) (past : List ReadLine) (before : List ℕ) → rules.Stands start replay (line ∷ past)
    → rules.noted start (line ∷ past) ≡ rules.noted start past ++ its → rules.Tells start past before → rules.Tells start (line ∷ past) (before ++ text)

-- what is told of a line was put, and whether anything was wrong with it is answered
pub record TellsAll (Adds : List ℕ → Type 0) (more : Bool) (its left : List Diagnostic) (old new : WriterState) : Type 0 where
  pub more_is : more ≡ has_some its
  pub cleared : left ≡ []
  pub text : List ℕ
  pub adds : Adds text
  pub put : PutsAll text old new

-- a beginning of it was put, and then the writer failed
pub record TellsPart (Adds : List ℕ → Type 0) (old new : WriterState) : Type 0 where
  pub text : List ℕ
  pub adds : Adds text
  pub put : PutsBeginning text old new

-- how the telling of a line ended: where memory was refused nothing was put
abbrev pub TellsLine : (Adds : List ℕ → Type 0) (Lacks : Type 0) → Result Bool TellFault → (its left : List Diagnostic) (old new : WriterState) → Type 0
TellsLine Adds Lacks (Ok more) its left old new = TellsAll Adds more its left old new
TellsLine Adds Lacks (Err Write) its left old new = TellsPart Adds old new
TellsLine Adds Lacks (Err OutOfMemory) its left old new = Lacks × (new ≡ old)
