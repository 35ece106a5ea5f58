-- Heaps by size for a log: into which ranges its requests fall, and the most blocks of some ranges that are held at once.
use Rattle.std.specs.Prelude.{◌≡◌, ℕ, suc, ◌+◌, ◌<◌, ◌≤◌, ◌*◌, ◌^◌, ◌&&◌, ◌==◌, max, nat_le, Bool, true, false, List, [], ◌∷◌, ◌++◌, length, flat_map, reverse, decimal, codes, count_by, sum_by, is_some, Option, Some, None, unwrap_or, option_map, option_and_then, if◌then◌else◌}
use Rattle.std.specs.List.{list_all}
use Rattle.std.specs.Ordering.{nat_cmp, ordering_then, is_gt}
use Rattle.std.specs.declared.cmp.Ordering.{Ordering}
use Rattle.std.specs.Cmp.Lexicographic.{slice_cmp}
use Rattle.tlsf_class.specs.Classes.{unit, greatest_size, least}
use Rattle.tlsf_store.specs.Records.{most_records}
use Rattle.tlsf_heap.specs.Sizing.{table_bytes}
use Rattle.mtrace_replay.specs.declared.ledger.replay.LedgerTotals.{LedgerTotals}
use Rattle.mtrace_replay.specs.Moment.{ReadLine, Given}
use Rattle.mtrace_replay.specs.History.{held, pending}
use Rattle.mtrace_replay.specs.Totals.{is_served, IsMost}
use Rattle.mtrace_replay.specs.Asked.{class_asked}
use Rattle.mtrace_replay.specs.LedgerReplay.{ledger_moment, ledger_moments, ledger_history}
use Rattle.mtrace_replay.specs.RunLedger.{AreLedgerTotals}
use Rattle.mtrace_log.specs.Bytes.{newline}
use Rattle.mtrace_replay.specs.Texts.{number_line, pair_line, size_line, bytes_text}

-- how many ranges of sizes there are: the last has the greatest classes
abbrev pub size_ranges : ℕ
size_ranges = 27

-- where a range ends, in bytes: at a power of two, the first at the unit
abbrev pub range_end : ℕ → ℕ
range_end range = unit * 2 ^ range

-- the range of a size: the first that ends there or behind it
unfoldable pub range_of : ℕ → ℕ
range_of size = unwrap_or (least (λ range. nat_le size (range_end range)) size_ranges) size_ranges

-- whether there is a size, and it falls under one of these ranges
abbrev pub is_in : (first last : ℕ) → Option ℕ → Bool
is_in first last None = false
is_in first last (Some size) = nat_le first (range_of size) && nat_le (range_of size) last

-- the class size of what the line of this number asks for; the latest line comes first
abbrev pub class_at : List ReadLine → ℕ → Option ℕ
class_at [] number = None
class_at (line ∷ past) number = if number == suc (length past) then class_asked line else class_at past number

-- how many blocks fall under these ranges, each by what its line asked for
abbrev pub blocks_of : (asked : ℕ → Option ℕ) → (first last : ℕ) → List Given → ℕ
blocks_of asked first last all = count_by (λ given. is_in first last (asked given.entry.line)) all

-- the class sizes of what the served lines asked for, the latest first
unfoldable pub served_classes : List ReadLine → List (Option ℕ)
served_classes [] = []
served_classes (line ∷ past) =
    if is_served (ledger_moment (length past) line (pending past) (held (ledger_moments past))) then class_asked line ∷ served_classes past else served_classes past

-- the largest of the sizes that fall under these ranges, 0 where none does
abbrev pub largest : (first last : ℕ) → List (Option ℕ) → ℕ
largest first last [] = 0
largest first last (size ∷ sizes) = if is_in first last size then max (unwrap_or size 0) (largest first last sizes) else largest first last sizes

-- A part: blocks of one size, of which no more are held at once.
pub record Part : Type 0 where
  pub blocks : ℕ
  pub size : ℕ

-- The part that serves these ranges. Its blocks are the most that are held behind any line, and it has the largest size.
pub record IsPart (past : List ReadLine) (first last : ℕ) (part : Part) : Type 0 where
  pub blocks : IsMost (blocks_of (class_at past) first last) (ledger_moments past) part.blocks
  pub size : part.size ≡ largest first last (served_classes past)

-- each of the parts that serve neighbouring ranges
abbrev pub AreParts : List ReadLine → (ℕ → ℕ → Part) → Type 0
AreParts past part = (first last : ℕ) → first ≤ last → last < size_ranges → IsPart past first last (part first last)

-- The ranges from `first` on are cut into parts. The list has the last range of each part, behind which the next one begins. No
-- request falls under a range behind the last part.
abbrev pub IsCut : (ℕ → ℕ → Part) → ℕ → List ℕ → Type 0
IsCut part first [] = (last : ℕ) → first ≤ last → last < size_ranges → (part first last).size ≡ 0
IsCut part first (last ∷ ends) = (first ≤ last) × (last < size_ranges) × IsCut part (suc last) ends

-- the parts that a cut makes
abbrev pub parts_of : (ℕ → ℕ → Part) → ℕ → List ℕ → List Part
parts_of part first [] = []
parts_of part first (last ∷ ends) = part first last ∷ parts_of part (suc last) ends

-- the bytes of a part, and of those that a cut makes
abbrev pub part_bytes : Part → ℕ
part_bytes part = part.blocks * part.size

abbrev pub cut_bytes : (ℕ → ℕ → Part) → ℕ → List ℕ → ℕ
cut_bytes part first ends = sum_by part_bytes (parts_of part first ends)

-- whether a part can be built: its pool isn't above the greatest, and there can be as many records
abbrev pub can_be_built : Part → Bool
can_be_built part = nat_le (part_bytes part) greatest_size && nat_le part.blocks most_records

-- how many of the parts that a cut makes can't be built
abbrev pub unbuilt : Part → ℕ
unbuilt part = if can_be_built part then 0 else 1

abbrev pub cut_unbuilt : (ℕ → ℕ → Part) → ℕ → List ℕ → ℕ
cut_unbuilt part first ends = sum_by unbuilt (parts_of part first ends)

-- cuts are compared by how many of their parts can't be built, then by their bytes, then by how many parts they make, and then by
-- where these end
abbrev pub cut_cmp : (ℕ → ℕ → Part) → ℕ → List ℕ → List ℕ → Ordering
cut_cmp part first one other =
    ordering_then (nat_cmp (cut_unbuilt part first one) (cut_unbuilt part first other))
    (ordering_then (nat_cmp (cut_bytes part first one) (cut_bytes part first other))
    (ordering_then (nat_cmp (length one) (length other)) (slice_cmp nat_cmp one other)))

-- of all cuts that make at most `most` parts none is less
pub record IsLeastCut (part : ℕ → ℕ → Part) (most first : ℕ) (ends : List ℕ) : Type 0 where
  pub cut : IsCut part first ends
  pub few : length ends ≤ most
  pub least : (other : List ℕ) → IsCut part first other → length other ≤ most → is_gt (cut_cmp part first ends other) ≡ false

-- the bytes of a part's pool; none where the part can't be built
abbrev pub pool_bytes : Part → Option ℕ
pool_bytes part = if can_be_built part then Some (part_bytes part) else None

-- the bytes of the table for a part's records; none where there can be no pool for the part
abbrev pub records_bytes : Part → Option ℕ
records_bytes part = option_map (λ pool. table_bytes part.blocks) (pool_bytes part)

-- a sum over parts; none where one has none
abbrev pub sum_over : (Part → Option ℕ) → List Part → Option ℕ
sum_over measure [] = Some 0
sum_over measure (part ∷ parts) = option_and_then (λ n. option_map (λ rest. n + rest) (sum_over measure parts)) (measure part)

-- `up to F: L blocks, B bytes`, one line
abbrev pub part_line : Part → List ℕ
part_line part = codes "up to " ++ decimal part.size ++ codes ": " ++ decimal part.blocks ++ codes " blocks, " ++ bytes_text (pool_bytes part) ++ newline ∷ []

-- the parts, each with its line, and their sums
abbrev pub parts_text : List Part → List ℕ
parts_text parts =
    number_line (codes "heaps: ") (length parts)
    ++ (flat_map part_line parts ++ (size_line (codes "sum: ") (sum_over pool_bytes parts) ++ size_line (codes "tables: ") (sum_over records_bytes parts)))

-- no parts serve the log
abbrev pub no_parts_text : List ℕ
no_parts_text = size_line (codes "heaps: ") None ++ size_line (codes "sum: ") None ++ size_line (codes "tables: ") None

-- the text of the parts that a least cut makes
pub record TellsCut (heaps : ℕ) (past : List ReadLine) (text : List ℕ) : Type 0 where
  pub part : ℕ → ℕ → Part
  pub are_parts : AreParts past part
  pub ends : List ℕ
  pub chosen : IsLeastCut part heaps 0 ends
  pub text_is : text ≡ parts_text (parts_of part 0 ends)

-- the text of a least cut where each served request has a class, else the text that no parts serve
abbrev pub TellsHeaps : (has_classes : Bool) (heaps : ℕ) (past : List ReadLine) (text : List ℕ) → Type 0
TellsHeaps true heaps past text = TellsCut heaps past text
TellsHeaps false heaps past text = text ≡ no_parts_text

-- the peak, one line
abbrev pub peak_line_text : (bytes line : ℕ) → List ℕ
peak_line_text bytes line = pair_line (codes "peak: ") bytes (codes " bytes at line ") line []

-- the text of the heaps by size that serve a log, this many at most
pub record TellsParts (heaps : ℕ) (lines : List ReadLine) (text : List ℕ) : Type 0 where
  pub totals : LedgerTotals
  pub summed : AreLedgerTotals (ledger_history lines) totals
  pub rest : List ℕ
  pub tells : TellsHeaps (list_all is_some (served_classes (reverse lines))) heaps (reverse lines) rest
  pub text_is : text ≡ peak_line_text totals.peak_bytes totals.peak_line ++ rest
