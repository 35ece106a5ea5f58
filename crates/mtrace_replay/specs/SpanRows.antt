-- Spans in rows: those from one range on, by their last one.
use Rattle.std.specs.Prelude.{◌≡◌, ℕ, zero, suc, ◌+◌, List, [], ◌∷◌, ◌++◌, length, map}
use Rattle.mtrace_replay.specs.declared.parts.span.Span.{Span}
use Rattle.mtrace_replay.specs.Parts.{size_ranges}
use Rattle.mtrace_replay.specs.Span.{blank}

-- the spans from one range on, of which the first ends with this one, and the last with the last range
abbrev pub IsRow : (first last : ℕ) → List Span → Type 0
IsRow first last [] = last ≡ size_ranges
IsRow first last (span ∷ spans) = (span.first ≡ first) × (span.last ≡ last) × IsRow first (suc last) spans

-- this many rows, from that of a range on
abbrev pub AreRows : (many first : ℕ) → List Span → Type 0
AreRows zero first spans = spans ≡ []
AreRows (suc many) first spans = (row : List Span) × (rest : List Span) × (spans ≡ row ++ rest) × IsRow first first row × AreRows many (suc first) rest

-- this many blank spans from a range on, of which the first ends with this one
unfoldable pub blank_row : (many first last : ℕ) → List Span
blank_row zero first last = []
blank_row (suc many) first last = blank first last ∷ blank_row many first (suc last)

-- this many rows of blank spans, from that of a range on
unfoldable pub blank_rows : (many first : ℕ) → List Span
blank_rows zero first = []
blank_rows (suc many) first = blank_row (suc many) first first ++ blank_rows many (suc first)

-- the spans from one position to another are changed
abbrev pub ChangesBetween : (Span → Span) → (from to : ℕ) → (old new : List Span) → Type 0
ChangesBetween change from to old new =
    (low high rest : List Span) → old ≡ low ++ high ++ rest → length low ≡ from → length low + length high ≡ to → new ≡ low ++ map change high ++ rest
