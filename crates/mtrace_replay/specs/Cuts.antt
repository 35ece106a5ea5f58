-- The least cut, by the least cuts of the ranges behind its first part.
use Rattle.std.specs.Prelude.{◌≡◌, ℕ, suc, ◌+◌, ◌*◌, ◌^◌, ◌<◌, ◌≤◌, ◌⊎◌, false, List, ◌∷◌, length, slice_index_or, Option, Some, None, ⊤}
use Rattle.std.specs.List.{All}
use Rattle.std.specs.Ordering.{nat_cmp, ordering_then, is_gt}
use Rattle.std.specs.Cmp.Lexicographic.{slice_cmp}
use Rattle.std.specs.declared.cmp.Ordering.{Ordering}
use Rattle.mtrace_replay.specs.declared.parts.span.Span.{Span}
use Rattle.mtrace_replay.specs.declared.parts.cut.Cut.{Cut}
use Rattle.mtrace_replay.specs.Parts.{size_ranges, Part, part_bytes, unbuilt, IsCut, cut_bytes, cut_unbuilt, IsLeastCut}
use Rattle.mtrace_replay.specs.Span.{IsPlaced}
use Rattle.mtrace_replay.specs.Spans.{AreAll}

-- the part of a span, and its bytes
abbrev pub part_of : Span → Part
part_of span = record { blocks = span.most; size = span.size }

abbrev pub span_bytes : Span → ℕ
span_bytes span = part_bytes (part_of span)

-- the order of cuts
abbrev pub cut_order : Cut → Cut → Ordering
cut_order one other =
    ordering_then (nat_cmp one.unbuilt other.unbuilt)
    (ordering_then (nat_cmp one.bytes other.bytes)
    (ordering_then (nat_cmp (length one.ends.items) (length other.ends.items)) (slice_cmp nat_cmp one.ends.items other.ends.items)))

-- a cut isn't greater than another; where there is none, there isn't another
abbrev pub NotGreater : Option Cut → Option Cut → Type 0
NotGreater cut None = ⊤
NotGreater None (Some other) = ⊥
NotGreater (Some cut) (Some other) = is_gt (cut_order cut other) ≡ false

-- it is one of two, and isn't greater than either
pub record IsLesser (one other cut : Option Cut) : Type 0 where
  pub either : (cut ≡ one) ⊎ (cut ≡ other)
  pub first : NotGreater cut one
  pub second : NotGreater cut other

-- a cut with one part more in front
abbrev pub IsJoined : Span → Option Cut → Option Cut → Type 0
IsJoined span None cut = cut ≡ None
IsJoined span (Some rest) None = ⊥
IsJoined span (Some rest) (Some cut) =
    (cut.ends.items ≡ span.last ∷ rest.ends.items) × (cut.bytes ≡ span_bytes span + rest.bytes) × (cut.unbuilt ≡ unbuilt (part_of span) + rest.unbuilt)

-- a cut of few parts, and of as many bytes as these can have
abbrev pub IsSmall : ℕ → Option Cut → Type 0
IsSmall most None = ⊤
IsSmall most (Some cut) = (length cut.ends.items ≤ most) × (cut.bytes ≤ most * 2 ^ 96) × (cut.unbuilt ≤ most)

-- the spans, each with its part
pub record ArePartsIn (part : ℕ → ℕ → Part) (spans : List Span) : Type 0 where
  pub each : All (λ span. part span.first span.last ≡ part_of span) spans
  pub placed : All IsPlaced spans
  pub all : AreAll spans

-- of the cuts from a range on that make at most `most` parts it is a least one; or there is none
abbrev pub IsBest : (ℕ → ℕ → Part) → (most first : ℕ) → Option Cut → Type 0
IsBest part most first None = (ends : List ℕ) → IsCut part first ends → length ends ≤ most → ⊥
IsBest part most first (Some cut) =
    IsLeastCut part most first cut.ends.items × (cut.bytes ≡ cut_bytes part first cut.ends.items) × (cut.unbuilt ≡ cut_unbuilt part first cut.ends.items)

-- the best cuts from each range on, and from behind the last
pub record AreBest (part : ℕ → ℕ → Part) (most : ℕ) (cuts : List (Option Cut)) : Type 0 where
  pub each : (first : ℕ) (d : Option Cut) → first < length cuts → IsBest part most first (slice_index_or cuts first d)
  pub all : length cuts ≡ suc size_ranges
