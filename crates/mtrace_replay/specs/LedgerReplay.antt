-- What the lines of a log do where no heap is asked: each block that is asked for is given.
use Rattle.std.specs.Prelude.{◌≡◌, ℕ, suc, Bool, true, false, nat_lt, List, [], ◌∷◌, ◌++◌, length, map, reverse, count_by, is_some, Option, Some, None, Result, IfOk, OnOk, OnErr, if◌then◌else◌}
use Rattle.std.specs.Option.{option_map}
use Rattle.tlsf_heap.specs.Pools.{created}
use Rattle.mtrace_replay.specs.Entry.{Entry}
use Rattle.mtrace_replay.specs.declared.held.diagnostic.Diagnostic.{Diagnostic}
use Rattle.mtrace_replay.specs.Started.{Bare}
use Rattle.mtrace_replay.specs.Moment.{ReadLine, Given, Moment, Plan, Act, idle, give, take, move, plan, half, is_new, unserved, after_diagnostics}
use Rattle.mtrace_replay.specs.History.{held, held_after, pending, notes, AreHeld, entries_of}
use Rattle.mtrace_replay.specs.Totals.{is_served, first_moments, Measures, IsPeak, blocks_in}
use Rattle.mtrace_replay.specs.declared.ledger.replay.LedgerTotals.{LedgerTotals}
use Rattle.mtrace_replay.specs.declared.heap.totals.Totals.{Totals}
use Rattle.mtrace_replay.specs.Texts.{total_size}
use Rattle.mtrace_replay.specs.Sites.{Site, AreTallied}
use Rattle.mtrace_replay.specs.Calls.{Called, CountsMore, CountsReleased}
use Rattle.mtrace_replay.specs.Callers.{calls_in, temporary_in, AreCounted}
use Rattle.mtrace_replay.specs.Ledger.{entry_under, LedgerState, KeepsPeak}
use Rattle.mtrace_replay.specs.LineReplay.{LineRules, Notes}

-- what stands in each moment in the place of a heap
abbrev pub no_heap : Bare
no_heap = created 0

-- the entry, with no place
abbrev pub unplaced : Entry → Given
unplaced entry = record { entry = entry; place = 0 }

-- what an act leaves
abbrev pub act_moment : Act → Moment
act_moment idle = unserved [] no_heap
act_moment (give entry align) = record { given = Some (unplaced entry); taken = None; diagnostics = []; content = no_heap }
act_moment (take address place) = record { given = None; taken = Some address; diagnostics = []; content = no_heap }
act_moment (move old place entry) = record { given = Some (unplaced entry); taken = Some old; diagnostics = []; content = no_heap }

-- what a plan leaves
abbrev pub plan_moment : Plan → Moment
plan_moment planned = after_diagnostics planned.first (act_moment planned.act)

-- what the line behind these many lines leaves
abbrev pub ledger_moment : ℕ → ReadLine → Option ℕ → (ℕ → Option Given) → Moment
ledger_moment before line pending held = after_diagnostics (if is_new line then [] else half before pending) (plan_moment (plan (suc before) line pending held))

-- the moments of lines, the latest first
unfoldable pub ledger_moments : List ReadLine → List Moment
ledger_moments [] = []
ledger_moments (line ∷ past) = ledger_moment (length past) line (pending past) (held (ledger_moments past)) ∷ ledger_moments past

-- the moments of a log's lines, the first line first
abbrev pub ledger_history : List ReadLine → List Moment
ledger_history lines = ledger_moments (reverse lines)

-- the diagnostics of a log's lines, the first line first
abbrev pub ledger_diagnostics : List ReadLine → List Diagnostic
ledger_diagnostics lines = notes (ledger_history lines) ++ half (length lines) (pending (reverse lines))

-- what an address is held under, without a place
abbrev pub found_in : List Entry → ℕ → Option Given
found_in all address = option_map unplaced (entry_under all address)

-- what an act of the line of this number adds to the calls
abbrev pub CountsAct : ℕ → Act → List Entry → (old new : Called) → Type 0
CountsAct number idle all old new = new ≡ old
CountsAct number (give entry align) all old new = CountsMore entry.at 1 entry.size 0 old new
CountsAct number (take address place) all old new = CountsReleased (Some number) (entry_under all address) old new
CountsAct number (move from place entry) all old new = CountsMore entry.at 1 entry.size 0 old new

-- What the line of this number does, or a part of it, as its plan says, and whether a block is given. Where memory is refused what is
-- held stays.
pub record Serves {E : Type 0} (number : ℕ) (planned : Plan) (diagnostics : List Diagnostic) (result : Result Bool E) (old new : LedgerState) : Type 0 where
  pub held : OnOk result ((address : ℕ) → found_in new.all address ≡ held_after (plan_moment planned) (found_in old.all) address)
  pub peak : OnOk result (KeepsPeak old new)
  pub called : OnOk result (CountsAct number planned.act old.all old.called new.called)
  pub diagnostics_are : OnOk result (diagnostics ≡ (plan_moment planned).diagnostics)
  pub given : IfOk result (λ given. given ≡ is_some (plan_moment planned).given)
  pub unchanged : OnErr result (new ≡ old)

-- a replay without a heap: what is held in order of address, how many lines there were and how many were served, the greatest
-- sum of bytes with its line, its number of blocks and its sites, who asked, and the address of the last line where that is `<`
pub record LedgerReplayed : Type 0 where
  pub all : List Entry
  pub lines : ℕ
  pub served : ℕ
  pub peak_bytes : ℕ
  pub peak_line : ℕ
  pub peak_blocks : ℕ
  pub at_peak : List Site
  pub called : Called
  pub pending : Option ℕ

-- what was held after these moments, those up to the peak
pub record IsAtPeak (replay : LedgerReplayed) (past : List Moment) : Type 0 where
  pub blocks : Measures blocks_in past replay.peak_blocks
  pub sites : (all : List Given) → AreHeld all past → AreTallied (entries_of all) replay.at_peak

-- the replay stands for the lines, of which the latest comes first
pub record LedgerStandsFor (replay : LedgerReplayed) (past : List ReadLine) : Type 0 where
  pub lines_are : replay.lines ≡ length past
  pub served_are : replay.served ≡ count_by is_served (ledger_moments past)
  pub pending_is : replay.pending ≡ pending past
  pub held : AreHeld (map unplaced replay.all) (ledger_moments past)
  pub peak : IsPeak (ledger_moments past) replay.peak_bytes replay.peak_line
  pub at_peak : IsAtPeak replay (first_moments replay.peak_line (ledger_moments past))
  pub called : AreCounted (calls_in (ledger_moments past)) (temporary_in past (ledger_moments past)) replay.called

-- all diagnostics of lines, of which the latest comes first
abbrev pub ledger_noted : List ReadLine → List Diagnostic
ledger_noted past = notes (ledger_moments past)

-- The line of this number was fed. Where memory is refused the replay is as before the line.
pub record FeedsLedger {E : Type 0} (number : ℕ) (line : ReadLine) (diagnostics : List Diagnostic) (result : Result (Unit {0}) E) (old new : LedgerReplayed) : Type 0 where
  pub stands : OnOk result ((past : List ReadLine) → LedgerStandsFor old past → LedgerStandsFor new (line ∷ past))
  pub told : OnOk result ((past : List ReadLine) → LedgerStandsFor old past → ledger_noted (line ∷ past) ≡ ledger_noted past ++ diagnostics)
  pub counted : OnOk result (new.lines ≡ number)
  pub unchanged : OnErr result (new ≡ old)

-- the sums over the lines of a replay
abbrev pub totals_of : LedgerReplayed → LedgerTotals
totals_of replay = record {
  lines = replay.lines;
  served = replay.served;
  live_bytes = total_size replay.all;
  live_blocks = length replay.all;
  peak_bytes = replay.peak_bytes;
  peak_line = replay.peak_line;
}

-- the sums of a replay on a heap that are told without one
abbrev pub without_places : Totals → LedgerTotals
without_places totals = record {
  lines = totals.lines;
  served = totals.served;
  live_bytes = totals.live_bytes;
  live_blocks = totals.live_blocks;
  peak_bytes = totals.peak_bytes;
  peak_line = totals.peak_line;
}

-- what is held now is the peak, where it is more than was ever held; all else stays
pub record RaisesPeak (old new : LedgerReplayed) : Type 0 where
  pub all : new.all ≡ old.all
  pub lines : new.lines ≡ old.lines
  pub served : new.served ≡ old.served
  pub pending : new.pending ≡ old.pending
  pub called : new.called ≡ old.called
  pub bytes : new.peak_bytes ≡ (if nat_lt old.peak_bytes (total_size old.all) then total_size old.all else old.peak_bytes)
  pub line : new.peak_line ≡ (if nat_lt old.peak_bytes (total_size old.all) then old.lines else old.peak_line)
  pub blocks : new.peak_blocks ≡ (if nat_lt old.peak_bytes (total_size old.all) then length old.all else old.peak_blocks)
  pub raised : nat_lt old.peak_bytes (total_size old.all) ≡ true → AreTallied old.all new.at_peak
  pub kept : nat_lt old.peak_bytes (total_size old.all) ≡ false → new.at_peak ≡ old.at_peak

-- what a replay without a heap says of itself: it begins on nothing
abbrev pub ledger_rules : LineRules LedgerReplayed
ledger_rules = record {
  Start = Unit {0};
  Stands = λ start replay past. LedgerStandsFor replay past;
  noted = λ start past. ledger_noted past;
  Tells = λ start. Notes ledger_noted;
  lines = λ replay. replay.lines;
  IsReady = λ replay. Unit {0};
  fixed = λ replay. 0;
  Lacks = Unit {0};
}
