-- The lines of a log over a heap that keeps bytes in front of each block: each request is larger by this front.
use Rattle.std.specs.Prelude.{◌≡◌, ℕ, ◌+◌, min, List, map, Ok}
use Rattle.mtrace_log.specs.Progress.{greatest_number}
use Rattle.mtrace_log.specs.declared.event.Event.TheVariants.{Alloc, New, Aligned}
use Rattle.mtrace_replay.specs.declared.heap.settings.Settings.{Settings}
use Rattle.mtrace_replay.specs.declared.runs.fronted.Fronted.{Fronted}
use Rattle.mtrace_replay.specs.Started.{started}
use Rattle.mtrace_replay.specs.Moment.{ReadLine, Moment}
use Rattle.mtrace_replay.specs.History.{moments}
use Rattle.mtrace_replay.specs.LedgerReplay.{ledger_moments}
use Rattle.mtrace_replay.specs.LineReplay.{LineRules}

-- the sum of a size and the front, at most the greatest number
abbrev pub with_front : (front size : ℕ) → ℕ
with_front front size = min (size + front) greatest_number

-- the line, with the front added to its size where it asks for a block
abbrev pub fronted_line : (front : ℕ) → ReadLine → ReadLine
fronted_line front (Ok (Alloc at address size)) = Ok (Alloc at address (with_front front size))
fronted_line front (Ok (Aligned at address align size)) = Ok (Aligned at address align (with_front front size))
fronted_line front (Ok (New at address size)) = Ok (New at address (with_front front size))
fronted_line front line = line

-- all lines with the front
abbrev pub fronted : (front : ℕ) → List ReadLine → List ReadLine
fronted front lines = map (fronted_line front) lines

-- the moments on a heap by the settings of lines with the front, the latest first
abbrev pub fronted_moments : (front : ℕ) → Settings → List ReadLine → List Moment
fronted_moments front settings past = moments (started settings) (fronted front past)

-- their moments without a heap
abbrev pub fronted_ledger_moments : (front : ℕ) → List ReadLine → List Moment
fronted_ledger_moments front past = ledger_moments (fronted front past)

-- What a replay says of itself that adds the front to each request and hands it to another replay. It begins on the front, and on
-- what the other begins on.
abbrev pub fronted_rules : {P : Type 0} → LineRules P → LineRules (Fronted P)
fronted_rules rules = record {
  Start = ℕ × rules.Start;
  Stands = λ start replay past. (replay.front ≡ start.0) × rules.Stands start.1 replay.replay (fronted start.0 past);
  noted = λ start past. rules.noted start.1 (fronted start.0 past);
  Tells = λ start past. rules.Tells start.1 (fronted start.0 past);
  lines = λ replay. rules.lines replay.replay;
  IsReady = λ replay. rules.IsReady replay.replay;
  fixed = λ replay. rules.fixed replay.replay;
  Lacks = rules.Lacks;
}
