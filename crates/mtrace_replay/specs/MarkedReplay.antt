-- A replay without a heap that keeps what each location held behind the line of a mark.
use Rattle.std.specs.Prelude.{◌≡◌, ◌≤◌, ℕ, List, [], length, map, Option}
use Rattle.mtrace_replay.specs.Entry.{Entry}
use Rattle.mtrace_replay.specs.declared.ledger.point.LedgerPoint.{LedgerPoint}
use Rattle.mtrace_replay.specs.Moment.{ReadLine, Given}
use Rattle.mtrace_replay.specs.History.{AreHeld, entries_of, pending}
use Rattle.mtrace_replay.specs.Totals.{first_moments}
use Rattle.mtrace_replay.specs.Texts.{total_size, changes_text}
use Rattle.mtrace_replay.specs.Sites.{Site, AreTallied}
use Rattle.mtrace_replay.specs.Changes.{AreChanges}
use Rattle.mtrace_replay.specs.LedgerReplay.{ledger_moments, unplaced}
use Rattle.mtrace_replay.specs.LineReplay.{LineRules}

-- what is held in order of address, the sites at the mark, the line of the mark, how many lines there were, and the address of the
-- last line where that is `<`
pub record MarkedReplayed : Type 0 where
  pub all : List Entry
  pub at_mark : List Site
  pub mark : ℕ
  pub lines : ℕ
  pub pending : Option ℕ

-- the replay stands for the lines, of which the latest comes first
pub record MarkedStandsFor (replay : MarkedReplayed) (past : List ReadLine) : Type 0 where
  pub lines_are : replay.lines ≡ length past
  pub pending_is : replay.pending ≡ pending past
  pub held : AreHeld (map unplaced replay.all) (ledger_moments past)
  pub within : replay.mark ≤ length past
  pub before : List Given
  pub held_before : AreHeld before (first_moments replay.mark (ledger_moments past))
  pub at_mark : AreTallied (entries_of before) replay.at_mark

-- what such a replay says of itself: nothing is told of a line, and none changes the mark
abbrev pub marked_rules : LineRules MarkedReplayed
marked_rules = record {
  Start = Unit {0};
  Stands = λ start replay past. MarkedStandsFor replay past;
  noted = λ start past. [];
  Tells = λ start past text. text ≡ [];
  lines = λ replay. replay.lines;
  IsReady = λ replay. Unit {0};
  fixed = λ replay. replay.mark;
  Lacks = Unit {0};
}

-- the mark is at the last line: what is held stays
pub record MarksLast (old new : MarkedReplayed) : Type 0 where
  pub stands : (past : List ReadLine) → MarkedStandsFor old past → MarkedStandsFor new past
  pub mark : new.mark ≡ old.lines
  pub lines : new.lines ≡ old.lines

-- what is held behind the last line
abbrev pub point_of : MarkedReplayed → LedgerPoint
point_of replay = record { line = replay.lines; bytes = total_size replay.all; blocks = length replay.all }

-- the text of what is held behind the last line, and of what has changed since the mark
pub record IsToldOf (replay : MarkedReplayed) (text : List ℕ) : Type 0 where
  pub sites : List Site
  pub changes : (before : List Entry) → AreTallied before replay.at_mark → AreChanges before replay.all sites
  pub text_is : text ≡ changes_text (point_of replay) sites
