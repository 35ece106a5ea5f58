-- memalign: the block picked, split so that a live block begins at a multiple of an alignment.
use Rattle.std.specs.Prelude.{ℕ, ◌+◌, ◌-◌, ◌^◌, Bool, not, List, ◌++◌, map, Option, Some, None, Result, Ok, Err, if◌then◌else◌, ◌==◌, nat_lt, nat_le}
use Rattle.std.specs.List.{list_any, range_with_len}
use Rattle.std.specs.Int.{next_multiple_of}
use Rattle.tlsf_heap.specs.declared.refusal.Refusal.{Refusal}
use Rattle.tlsf_heap.specs.declared.refusal.Refusal.TheVariants.{ZeroSize, NoFit, TableFull, BadAlign}
use Rattle.tlsf_class.specs.Classes.{unit}
use Rattle.tlsf_class.specs.Rounding.{round}
use Rattle.tlsf_heap.specs.Content.{Block, Content, blocks_of, size_at, used_records}
use Rattle.tlsf_heap.specs.Lists.{unlink, pick}
use Rattle.tlsf_heap.specs.Malloc.{gap, link_gap, replaced_in, split}

-- how many alignments there are: the powers of two from 1 to 2^29
abbrev pub alignments : ℕ
alignments = 30

-- whether it is one of them
abbrev pub is_alignment : ℕ → Bool
is_alignment align = list_any (λ power. 2 ^ power == align) (range_with_len 0 alignments)

-- how many bytes are asked of the lists. For an alignment above the unit, each block of as many bytes holds m bytes
-- from some multiple of it on
abbrev pub size_asked : ℕ → ℕ → ℕ
size_asked align m = if nat_le align unit then m else (m + align) - unit

-- a block split in three, for a live one of m bytes at the start: the gap in front, the live block, and the rest behind it
abbrev pub split_in_three : {A : Type 0} → A → (start m place size : ℕ) → List (Block A)
split_in_three owner start m place size = gap place (start - place) ++ split owner start m (size - (start - place))

-- how many records a gap of these bytes takes
abbrev pub gap_records : ℕ → ℕ
gap_records bytes = if bytes == 0 then 0 else 1

-- the block at the place, which has this size, leaves its list and is split; the gap enters its list, and then what
-- is left
abbrev pub aligned : {A : Type 0} → A → (start m place size : ℕ) → Content A → Content A
aligned owner start m place size content = record content {
  pools = map (replaced_in place (split_in_three owner start m place size)) content.pools;
  lists = link_gap (start + m) ((size - (start - place)) - m) (link_gap place (start - place) (unlink place size content.lists));
}

-- what a call would leave, with the place that it gives, unless that has more blocks than there are records
abbrev pub if_recorded : {A : Type 0} → ℕ → Content A → Result (ℕ × Content A) Refusal
if_recorded place after = if nat_lt after.records (used_records after) then Err TableFull else Ok (place, after)

-- the live block begins at the least multiple of the alignment at or above the block's place
abbrev pub memalign_picked : {A : Type 0} → A → (align m : ℕ) → Option ℕ → Content A → Result (ℕ × Content A) Refusal
memalign_picked owner align m None content = Err NoFit
memalign_picked owner align m (Some place) content =
    let start = next_multiple_of place align in
    if_recorded start (aligned owner start m place (size_at place (blocks_of content.pools)) content)

abbrev pub memalign_rounded : {A : Type 0} → A → ℕ → Option ℕ → Content A → Result (ℕ × Content A) Refusal
memalign_rounded owner align None content = Err NoFit
memalign_rounded owner align (Some m) content = memalign_picked owner align m (pick (size_asked align m) content.lists) content

-- memalign(align, n), where the new live block is known by owner: its place and the new content, or why it is refused
abbrev pub memalign : {A : Type 0} → A → ℕ → ℕ → Content A → Result (ℕ × Content A) Refusal
memalign owner align n content =
    if not (is_alignment align) then Err BadAlign else
    (if n == 0 then Err ZeroSize else memalign_rounded owner align (round n) content)
