-- The totals of a log's lines. Moments stand with the latest first.
use Rattle.std.specs.Prelude.{◌≡◌, ◌⊎◌, ℕ, ◌+◌, ◌-◌, ◌<◌, ◌≤◌, Bool, true, false, List, [], ◌∷◌, length, drop, count_by, is_some, Option, nat_lt, unwrap_or, if◌then◌else◌}
use Rattle.std.specs.List.{Contains, list_any}
use Rattle.tlsf_heap.specs.Content.{Block, blocks_of, is_free}
use Rattle.mtrace_replay.specs.declared.held.diagnostic.Diagnostic.{Diagnostic}
use Rattle.mtrace_replay.specs.declared.held.diagnostic.Kind.{Kind}
use Rattle.mtrace_replay.specs.declared.held.diagnostic.Kind.TheVariants.{Refused}
use Rattle.mtrace_replay.specs.declared.heap.totals.Totals.{Totals}
use Rattle.mtrace_replay.specs.Started.{Bare}
use Rattle.mtrace_replay.specs.Moment.{Given, Moment, rounded_bytes}
use Rattle.mtrace_replay.specs.History.{AreHeld, entries_of, content_after}
use Rattle.mtrace_replay.specs.Texts.{total_size}

-- the moments of the first k lines
abbrev pub first_moments : ℕ → List Moment → List Moment
first_moments k past = drop (length past - k) past

-- the line was served, or refused
abbrev pub is_served : Moment → Bool
is_served moment = is_some moment.given

abbrev pub is_refusal : Kind → Bool
is_refusal (Refused address refusal) = true
is_refusal _ = false

abbrev pub is_refused : Moment → Bool
is_refused moment = list_any (λ (diagnostic : Diagnostic). is_refusal diagnostic.kind) moment.diagnostics

-- what is held has this measure
pub record Measures (measure : List Given → ℕ) (past : List Moment) (n : ℕ) : Type 0 where
  pub all : List Given
  pub held : AreHeld all past
  pub measured : n ≡ measure all

-- how many addresses there are, the sum of their sizes, and the sum of the sizes of their blocks
abbrev pub blocks_in : List Given → ℕ
blocks_in all = length all

abbrev pub asked_bytes_in : List Given → ℕ
asked_bytes_in all = total_size (entries_of all)

abbrev pub rounded_bytes_in : List Given → ℕ
rounded_bytes_in [] = 0
rounded_bytes_in (given ∷ all) = rounded_bytes given.entry.size + rounded_bytes_in all

-- the greatest of the numbers that hold after any number of lines, and the first number of lines after which it holds
pub record IsGreatestOf (Holds : List Moment → ℕ → Type 0) (past : List Moment) (greatest_number line : ℕ) : Type 0 where
  pub within : line ≤ length past
  pub reached : Holds (first_moments line past) greatest_number
  pub greatest : (k n : ℕ) → Holds (first_moments k past) n → n ≤ greatest_number
  pub first : (k n : ℕ) → k < line → Holds (first_moments k past) n → n < greatest_number

-- the greatest sum, and the first line after which it is held
abbrev pub IsPeak : List Moment → (bytes line : ℕ) → Type 0
IsPeak past bytes line = IsGreatestOf (Measures asked_bytes_in) past bytes line

-- the greatest measure of what is held
abbrev pub IsMost : (measure : List Given → ℕ) → List Moment → ℕ → Type 0
IsMost measure past most = (line : ℕ) × IsGreatestOf (Measures measure) past most line

-- a block is live in the heap
abbrev pub IsLiveIn : Bare → Block (Unit {0}) → Type 0
IsLiveIn content block = Contains (blocks_of content.pools) block × (is_free block ≡ false)

-- 0, or where a block ends that is live after these lines
abbrev pub IsEnd : Bare → List Moment → ℕ → Type 0
IsEnd start past place = (place ≡ 0) ⊎ ((block : Block (Unit {0})) × IsLiveIn (content_after start past) block × (place ≡ block.place + block.size))

-- the greatest end of a live block, 0 where none was
abbrev pub IsHighPlace : Bare → List Moment → ℕ → Type 0
IsHighPlace start past place = (line : ℕ) × IsGreatestOf (IsEnd start) past place line

pub record AreTotals (start : Bare) (past : List Moment) (totals : Totals) : Type 0 where
  pub lines : totals.lines ≡ length past
  pub served : totals.served ≡ count_by is_served past
  pub refused : totals.refused ≡ count_by is_refused past
  pub live_bytes : Measures asked_bytes_in past totals.live_bytes
  pub live_blocks : Measures blocks_in past totals.live_blocks
  pub peak : IsPeak past totals.peak_bytes totals.peak_line
  pub high_place : IsHighPlace start past totals.high_place

-- the totals with one line more, by its outcome and what is held after it
abbrev pub gone_on : Totals → Option ℕ → Bool → ℕ → ℕ → Totals
gone_on totals end refused bytes blocks = record {
  lines = totals.lines + 1;
  served = totals.served + (if is_some end then 1 else 0);
  refused = totals.refused + (if refused then 1 else 0);
  live_bytes = bytes;
  live_blocks = blocks;
  peak_bytes = if nat_lt totals.peak_bytes bytes then bytes else totals.peak_bytes;
  peak_line = if nat_lt totals.peak_bytes bytes then totals.lines + 1 else totals.peak_line;
  high_place = if nat_lt totals.high_place (unwrap_or end 0) then unwrap_or end 0 else totals.high_place;
}
