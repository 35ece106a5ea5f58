-- A replay that counts the blocks held of each span of sizes.
use Rattle.std.specs.Prelude.{◌≡◌, ℕ, Bool, true, false, List, ◌∷◌, ◌++◌, length, Result, OnOk}
use Rattle.mtrace_replay.specs.declared.held.diagnostic.Diagnostic.{Diagnostic}
use Rattle.mtrace_replay.specs.declared.parts.change.Change.{Change}
use Rattle.mtrace_replay.specs.declared.parts.replay.CountedReplay.{CountedReplay}
use Rattle.mtrace_replay.specs.Moment.{ReadLine}
use Rattle.mtrace_replay.specs.History.{held, pending}
use Rattle.mtrace_replay.specs.Totals.{is_served}
use Rattle.mtrace_replay.specs.Asked.{class_asked}
use Rattle.mtrace_replay.specs.LedgerReplay.{ledger_moment, ledger_moments, LedgerStandsFor, ledger_noted}
use Rattle.mtrace_replay.specs.Spans.{released_by, address_asked, AreCountedOf, AreFew}
use Rattle.mtrace_replay.specs.LineReplay.{LineRules, Notes}

-- what the line behind these does, and whether it is served
pub record IsChangeOf (change : Change) (served : Bool) (line : ReadLine) (past : List ReadLine) : Type 0 where
  pub moved : change.moved ≡ released_by line (pending past) true
  pub freed : change.freed ≡ released_by line (pending past) false
  pub address : change.address ≡ address_asked line
  pub size : change.size ≡ class_asked line
  pub served_is : served ≡ is_served (ledger_moment (length past) line (pending past) (held (ledger_moments past)))

-- The line of this number was fed, and its blocks were counted.
pub record FeedsCounted {E : Type 0} (number : ℕ) (line : ReadLine) (diagnostics : List Diagnostic) (result : Result (Unit {0}) E) (old new : CountedReplay) : Type 0 where
  pub stands : OnOk result ((past : List ReadLine) → LedgerStandsFor old.ledger past → LedgerStandsFor new.ledger (line ∷ past))
  pub spans : OnOk result ((past : List ReadLine) → LedgerStandsFor old.ledger past → AreCountedOf past old.spans → AreCountedOf (line ∷ past) new.spans)
  pub told : OnOk result ((past : List ReadLine) → LedgerStandsFor old.ledger past → ledger_noted (line ∷ past) ≡ ledger_noted past ++ diagnostics)
  pub counted : OnOk result (new.ledger.lines ≡ number)
  pub few : OnOk result (AreFew number new.spans)

-- what a replay says of itself that counts blocks: it begins on nothing, and its counts are below the greatest number
abbrev pub counted_rules : LineRules CountedReplay
counted_rules = record {
  Start = Unit {0};
  Stands = λ start replay past. LedgerStandsFor replay.ledger past × AreCountedOf past replay.spans;
  noted = λ start past. ledger_noted past;
  Tells = λ start. Notes ledger_noted;
  lines = λ replay. replay.ledger.lines;
  IsReady = λ replay. AreFew replay.ledger.lines replay.spans;
  fixed = λ replay. 0;
  Lacks = Unit {0};
}
