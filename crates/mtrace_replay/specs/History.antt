-- What the lines of a log do, one after the other. The latest line comes first, but for `history` and `diagnostics`.
use Rattle.std.specs.Prelude.{◌≡◌, ℕ, List, [], ◌∷◌, ◌++◌, length, map, reverse, ◌↔◌, Option, Some, None, Ok, Err, if◌then◌else◌, ◌==◌}
use Rattle.std.specs.List.{Contains}
use Rattle.std.specs.List.Sorted.{IsStrictlyIncreasing}
use Rattle.mtrace_log.specs.declared.event.Event.TheVariants.{Start, End, Alloc, Free, Old, New, Failed, Aligned}
use Rattle.mtrace_replay.specs.Entry.{Entry}
use Rattle.mtrace_replay.specs.declared.held.diagnostic.Diagnostic.{Diagnostic}
use Rattle.mtrace_replay.specs.declared.heap.settings.Settings.{Settings}
use Rattle.mtrace_replay.specs.Started.{Bare, started}
use Rattle.mtrace_replay.specs.Moment.{ReadLine, Given, Moment, moment, half}

-- what an address is held under, by what a moment gave, or else the one before
abbrev pub given_or : Option Given → ℕ → Option Given → Option Given
given_or None address before = before
given_or (Some given) address before = if given.entry.addr == address then Some given else before

-- nothing, where the address was taken, or else the one before
abbrev pub unless_taken : Option ℕ → ℕ → Option Given → Option Given
unless_taken None address before = before
unless_taken (Some taken) address before = if taken == address then None else before

-- what an address is held under after a moment
abbrev pub held_after : Moment → (ℕ → Option Given) → ℕ → Option Given
held_after moment before address = given_or moment.given address (unless_taken moment.taken address (before address))

-- what an address is held under after the moments
abbrev pub held : List Moment → ℕ → Option Given
held [] address = None
held (moment ∷ past) address = held_after moment (held past) address

-- the heap after the moments
abbrev pub content_after : Bare → List Moment → Bare
content_after start [] = start
content_after start (moment ∷ past) = moment.content

-- the address of a line `<`
abbrev pub old_address : ReadLine → Option ℕ
old_address (Err fault) = None
old_address (Ok Start) = None
old_address (Ok End) = None
old_address (Ok (Alloc at address size)) = None
old_address (Ok (Free at address)) = None
old_address (Ok (Old at address)) = Some address
old_address (Ok (New at address size)) = None
old_address (Ok (Failed at address size)) = None
old_address (Ok (Aligned at address align size)) = None

-- the address of the last line, where that is `<`
abbrev pub pending : List ReadLine → Option ℕ
pending [] = None
pending (line ∷ past) = old_address line

-- the moment of the line behind these, and behind their moments
abbrev pub next_moment : Bare → ReadLine → List ReadLine → List Moment → Moment
next_moment start line past before = moment (length past) line (pending past) (held before) (content_after start before)

-- the moments of lines, from a heap on
unfoldable pub moments : Bare → List ReadLine → List Moment
moments start [] = []
moments start (line ∷ past) = next_moment start line past (moments start past) ∷ moments start past

-- the moments of a log's lines, the first line first
abbrev pub history : Settings → List ReadLine → List Moment
history settings lines = moments (started settings) (reverse lines)

-- the diagnostics in the order found
abbrev pub notes : List Moment → List Diagnostic
notes [] = []
notes (moment ∷ past) = notes past ++ moment.diagnostics

-- the diagnostics of a log's lines, the first line first, with that of a last line `<`
abbrev pub diagnostics : Settings → List ReadLine → List Diagnostic
diagnostics settings lines = notes (history settings lines) ++ half (length lines) (pending (reverse lines))

-- What is held, as a list: the addresses rise, and it has what an address is held under, and nothing else.
pub record AreHeld (all : List Given) (past : List Moment) : Type 0 where
  pub in_order : IsStrictlyIncreasing (map (λ given. given.entry.addr) all)
  pub each : (given : Given) → Contains all given ↔ (held past given.entry.addr ≡ Some given)

-- the entries of what is held
abbrev pub entries_of : List Given → List Entry
entries_of all = map (λ given. given.entry) all
