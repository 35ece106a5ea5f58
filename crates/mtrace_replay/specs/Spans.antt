-- How many blocks of neighbouring ranges of sizes are held, and the most that were.
use Rattle.std.specs.Prelude.{◌≡◌, ℕ, suc, ◌<◌, ◌≤◌, ◌==◌, nat_eq, Bool, true, false, List, [], ◌∷◌, length, map, is_some, Option, Some, None, Ok, Err, option_map, option_and_then, if◌then◌else◌, ⊤}
use Rattle.std.specs.List.{All, Contains, list_all}
use Rattle.mtrace_log.specs.declared.event.Event.TheVariants.{Start, End, Alloc, Free, Old, New, Failed, Aligned}
use Rattle.std.specs.HashMap.{get}
use Rattle.mtrace_replay.specs.declared.parts.span.Span.{Span}
use Rattle.mtrace_replay.specs.Span.{with_block, IsPlaced}
use Rattle.mtrace_replay.specs.declared.parts.spans.Block.{Block}
use Rattle.mtrace_replay.specs.declared.parts.spans.Spans.{Spans}
use Rattle.mtrace_replay.specs.Moment.{ReadLine, Given}
use Rattle.mtrace_replay.specs.History.{held}
use Rattle.mtrace_replay.specs.Totals.{Measures, IsMost}
use Rattle.mtrace_replay.specs.Asked.{class_asked}
use Rattle.mtrace_replay.specs.LedgerReplay.{ledger_moments}
use Rattle.mtrace_replay.specs.Parts.{size_ranges, range_of, blocks_of, served_classes, largest}

-- each line asked for what these numbers say, the latest line first
abbrev pub Agrees : (asked : ℕ → Option ℕ) → List ReadLine → Type 0
Agrees asked [] = ⊤
Agrees asked (line ∷ past) = (asked (suc (length past)) ≡ class_asked line) × Agrees asked past

-- the range of the block that is held under an address
abbrev pub range_held : (asked : ℕ → Option ℕ) → (held : ℕ → Option Given) → ℕ → Option ℕ
range_held asked held address = option_and_then (λ given. option_map range_of (asked given.entry.line)) (held address)

-- a span has what the lines did to its ranges
pub record IsSpan (past : List ReadLine) (span : Span) : Type 0 where
  pub live : (asked : ℕ → Option ℕ) → Agrees asked past → Measures (blocks_of asked span.first span.last) (ledger_moments past) span.live
  pub most : (asked : ℕ → Option ℕ) → Agrees asked past → IsMost (blocks_of asked span.first span.last) (ledger_moments past) span.most
  pub size : span.size ≡ largest span.first span.last (served_classes past)
  pub few : span.live ≤ length past
  pub raised : span.live ≤ span.most

-- there is a span for each of the neighbouring ranges
abbrev pub AreAll : List Span → Type 0
AreAll spans = (first last : ℕ) → first ≤ last → last < size_ranges → (span : Span) × Contains spans span × (span.first ≡ first) × (span.last ≡ last)

-- The spans have what the lines did, and these are the ranges of what is held. Each served request has a class.
pub record AreCounted (past : List ReadLine) (spans : List Span) (ranges : ℕ → Option ℕ) : Type 0 where
  pub each : All (IsSpan past) spans
  pub placed : All IsPlaced spans
  pub all : AreAll spans
  pub ranges_are : (asked : ℕ → Option ℕ) → Agrees asked past → (address : ℕ) → ranges address ≡ range_held asked (held (ledger_moments past)) address
  pub classes : list_all is_some (served_classes past) ≡ true

-- the address that a line releases, by that of the line before where that is `<`, and by whether the line is served
abbrev pub released_by : ReadLine → Option ℕ → Bool → Option ℕ
released_by (Err fault) pending served = None
released_by (Ok Start) pending served = None
released_by (Ok End) pending served = None
released_by (Ok (Alloc at address size)) pending served = None
released_by (Ok (Free at address)) pending served = Some address
released_by (Ok (Old at address)) pending served = None
released_by (Ok (New at address size)) pending served = if served then pending else None
released_by (Ok (Failed at address size)) pending served = None
released_by (Ok (Aligned at address align size)) pending served = None

-- the address that a line asks for
abbrev pub address_asked : ReadLine → Option ℕ
address_asked (Err fault) = None
address_asked (Ok Start) = None
address_asked (Ok End) = None
address_asked (Ok (Alloc at address size)) = address
address_asked (Ok (Free at address)) = None
address_asked (Ok (Old at address)) = None
address_asked (Ok (New at address size)) = Some address
address_asked (Ok (Failed at address size)) = None
address_asked (Ok (Aligned at address align size)) = Some address

-- the range of what an address that is released is held under
abbrev pub range_released : (ℕ → Option ℕ) → Option ℕ → Option ℕ
range_released ranges address = option_and_then (λ a. ranges a) address

-- the range under an address, where another one, or this one, was released
abbrev pub unless_released : Option ℕ → ℕ → Option ℕ → Option ℕ
unless_released None address range = range
unless_released (Some freed) address range = if freed == address then None else range

-- each span with the block that is given, where one is
abbrev pub given_all : Option Block → List Span → List Span
given_all None spans = spans
given_all (Some block) spans = map (with_block (range_of block.size) block.size) spans

-- the range under an address, where a block was given
abbrev pub given_range : Option Block → ℕ → Option ℕ → Option ℕ
given_range None address range = range
given_range (Some block) address range = if block.address == address then Some (range_of block.size) else range

-- the spans have what the lines did, or there are none, where a served request has no class
abbrev pub AreCountedOf : List ReadLine → Option Spans → Type 0
AreCountedOf past None = list_all is_some (served_classes past) ≡ false
AreCountedOf past (Some spans) = AreCounted past spans.all (get nat_eq spans.ranges)

-- no span has more blocks than there were lines
abbrev pub AreFew : ℕ → Option Spans → Type 0
AreFew lines None = ⊤
AreFew lines (Some spans) = All (λ span. span.live ≤ lines) spans.all

-- the block of an address and a size, where both are there
abbrev pub block_asked : Option ℕ → Option ℕ → Option Block
block_asked (Some address) (Some size) = Some (record { address = address; size = size })
block_asked (Some address) None = None
block_asked None size = None
