-- One span: neighbouring ranges of sizes, and the blocks that fall under them.
use Rattle.std.specs.Prelude.{◌≡◌, ℕ, ◌+◌, ◌-◌, ◌<◌, ◌≤◌, ◌&&◌, max, nat_le, Bool, false, Option, Some, None, if◌then◌else◌}
use Rattle.mtrace_replay.specs.declared.parts.span.Span.{Span}
use Rattle.mtrace_replay.specs.Parts.{size_ranges}

-- whether a range is one of a span
abbrev pub has_range : Span → ℕ → Bool
has_range span range = nat_le span.first range && nat_le range span.last

-- a span with one block more, of this size, and with one less
abbrev pub one_more : (size : ℕ) → Span → Span
one_more size span = record { first = span.first; last = span.last; live = span.live + 1; most = max span.most (span.live + 1); size = max size span.size }

abbrev pub one_less : Span → Span
one_less span = record { first = span.first; last = span.last; live = span.live - 1; most = span.most; size = span.size }

-- a span with one block more, of this size in this range
abbrev pub with_block : (range size : ℕ) → Span → Span
with_block range size span = record {
  first = span.first;
  last = span.last;
  live = if has_range span range then span.live + 1 else span.live;
  most = if has_range span range then max span.most (span.live + 1) else span.most;
  size = if has_range span range then max size span.size else span.size;
}

-- whether there is a range, and it is one of a span
abbrev pub hits : Span → Option ℕ → Bool
hits span None = false
hits span (Some range) = has_range span range

-- a span without a block of this range, where there is one
abbrev pub released : Option ℕ → Span → Span
released range span = record {
  first = span.first;
  last = span.last;
  live = if hits span range then span.live - 1 else span.live;
  most = span.most;
  size = span.size;
}

-- the ranges of a span are in order, and are some of the ranges
pub record IsPlaced (span : Span) : Type 0 where
  pub ordered : span.first ≤ span.last
  pub within : span.last < size_ranges

-- a span of no block yet
abbrev pub blank : (first last : ℕ) → Span
blank first last = record { first = first; last = last; live = 0; most = 0; size = 0 }

abbrev pub IsBlank : Span → Type 0
IsBlank span = (span ≡ blank span.first span.last) × IsPlaced span
