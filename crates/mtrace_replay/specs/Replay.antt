-- What a replay stands for.
use Rattle.std.specs.Prelude.{◌≡◌, ℕ, ◌*◌, ◌^◌, ◌<◌, Bool, true, false, List, ◌∷◌, length, Option, Result, Err, IfOk, IfErr, OnOk, OnErr}
use Rattle.mtrace_replay.specs.Entry.{Entry}
use Rattle.mtrace_replay.specs.declared.held.diagnostic.Diagnostic.{Diagnostic}
use Rattle.mtrace_replay.specs.declared.heap.replay.ReplayFault.{ReplayFault}
use Rattle.mtrace_replay.specs.declared.heap.replay.ReplayFault.TheVariants.{OutOfMemory}
use Rattle.mtrace_replay.specs.declared.heap.settings.Settings.{Settings}
use Rattle.mtrace_replay.specs.declared.heap.totals.Totals.{Totals}
use Rattle.tlsf_heap.specs.Touches.{AtMost}
use Rattle.mtrace_replay.specs.Started.{Bare, started}
use Rattle.mtrace_replay.specs.Step.{held_given}
use Rattle.mtrace_replay.specs.Totals.{AreTotals}
use Rattle.mtrace_replay.specs.Moment.{ReadLine, Given, plan, acts, half}
use Rattle.mtrace_replay.specs.History.{AreHeld, next_moment, moments, notes, content_after, pending, entries_of}
use Rattle.mtrace_replay.specs.LineReplay.{LineRules, Notes}

-- a replay: the heap's content, how often it was touched, how many addresses were compared, and the totals. `given`
-- is what is held, in order of address. `pending` is the address of the last line where that is `<`; `out_of_memory`,
-- whether memory was refused
pub record Replayed : Type 0 where
  pub content : Bare
  pub touches : ℕ
  pub comparisons : ℕ
  pub given : List Given
  pub totals : Totals
  pub pending : Option ℕ
  pub out_of_memory : Bool

-- the entries of what is held, in order of address
abbrev pub entries : Replayed → List Entry
entries replay = entries_of replay.given

-- the same replay, whose heap was touched this often
abbrev pub touched : ℕ → Replayed → Replayed
touched touches replay = record replay { touches = touches }

-- the replay stands for the lines, of which the latest comes first
pub record StandsFor (replay : Replayed) (settings : Settings) (past : List ReadLine) : Type 0 where
  pub works : replay.out_of_memory ≡ false
  pub lines_are : replay.totals.lines ≡ length past
  pub pending_is : replay.pending ≡ pending past
  pub content_is : replay.content ≡ content_after (started settings) (moments (started settings) past)
  pub held : AreHeld replay.given (moments (started settings) past)
  pub totals : AreTotals (started settings) (moments (started settings) past) replay.totals

-- the diagnostics that one more line adds to those of the lines before it, of which the latest comes first
abbrev pub added_diagnostics : Settings → ReadLine → List ReadLine → List Diagnostic
added_diagnostics settings line past =
    (next_moment (started settings) line past (moments (started settings) past)).diagnostics

-- The line of this number was fed. Where that is served, the replay stands for it too, and the answer is what it adds
-- to the diagnostics. Else memory was refused, by a heap that may lack it: what is held and the totals stay, for
-- good. There are at most three look-ups and 384 touches, and no touch where the line asks nothing of the heap. The
-- heap has as many records as before.
pub record Feeds {N : Type 0} (lacks : Type 0) (items : N → List Diagnostic) (number : ℕ) (line : ReadLine) (result : Result N ReplayFault) (old new : Replayed) : Type 0 where
  pub stands : OnOk result ((settings : Settings) (past : List ReadLine) → StandsFor old settings past → StandsFor new settings (line ∷ past))
  pub diagnostics : IfOk result (λ diagnostics. (settings : Settings) (past : List ReadLine) → StandsFor old settings past → items diagnostics ≡ added_diagnostics settings line past)
  pub counted : OnOk result (new.totals.lines ≡ number)
  pub for_good : old.out_of_memory ≡ true → result ≡ Err OutOfMemory
  pub fault : IfErr result (λ fault. fault ≡ OutOfMemory)
  pub ends : OnErr result (new.out_of_memory ≡ true)
  pub memory : OnErr result lacks
  pub unchanged : OnErr result (entries new ≡ entries old)
  pub totals_unchanged : OnErr result (new.totals ≡ old.totals)
  pub records : new.content.records ≡ old.content.records
  pub compared : (digits : ℕ) → old.content.records < 2 ^ digits → AtMost (3 * digits) old.comparisons new.comparisons
  pub bound : AtMost 384 old.touches new.touches
  pub idle : acts (plan number line old.pending (held_given old.given)).act ≡ false → new.touches ≡ old.touches

-- what is wrong at the end is told, unless memory was refused
pub record TellsEnd {N : Type 0} (lacks : Type 0) (items : N → List Diagnostic) (result : Result N ReplayFault) (replay : Replayed) : Type 0 where
  pub diagnostics : IfOk result (λ diagnostics. items diagnostics ≡ half replay.totals.lines replay.pending)
  pub fault : IfErr result (λ fault. fault ≡ OutOfMemory)
  pub for_good : OnErr result (replay.out_of_memory ≡ true)
  pub memory : OnErr result lacks
  pub works : OnOk result (replay.out_of_memory ≡ false)

-- all diagnostics of lines, of which the latest comes first
abbrev pub heap_notes : Settings → List ReadLine → List Diagnostic
heap_notes settings past = notes (moments (started settings) past)

-- what a replay on a heap says of itself: it begins on the settings, and lacks no memory
abbrev pub heap_rules : LineRules Replayed
heap_rules = record {
  Start = Settings;
  Stands = λ settings replay past. StandsFor replay settings past;
  noted = heap_notes;
  Tells = λ settings. Notes (heap_notes settings);
  lines = λ replay. replay.totals.lines;
  IsReady = λ replay. Unit {0};
  fixed = λ replay. replay.content.records;
  Lacks = ⊥;
}
