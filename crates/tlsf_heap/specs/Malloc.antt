-- malloc: the block picked, split at the size asked for.
use Rattle.std.specs.Prelude.{ℕ, ◌+◌, ◌-◌, ◌&&◌, List, [], ◌∷◌, map, flat_map, Option, Some, None, Result, Ok, Err, if◌then◌else◌, ◌==◌, nat_lt, nat_le}
use Rattle.tlsf_heap.specs.declared.refusal.Refusal.{Refusal}
use Rattle.tlsf_heap.specs.declared.refusal.Refusal.TheVariants.{ZeroSize, NoFit, TableFull}
use Rattle.tlsf_class.specs.Rounding.{round}
use Rattle.tlsf_heap.specs.Content.{Block, Pool, Content, blocks_of, is_at, size_at, used_records}
use Rattle.tlsf_heap.specs.Lists.{link, unlink, pick}

-- one free block of this size at the place, or nothing where the size is 0
abbrev pub gap : {A : Type 0} → ℕ → ℕ → List (Block A)
gap place size = if size == 0 then [] else record { place = place; size = size; owner = None } ∷ []

-- a gap enters its class's list; nothing where the size is 0
abbrev pub link_gap : ℕ → ℕ → List (List ℕ) → List (List ℕ)
link_gap place size lists = if size == 0 then lists else link place size lists

-- the block at the place gives way to other blocks
abbrev pub replaced : {A : Type 0} → ℕ → List (Block A) → List (Block A) → List (Block A)
replaced place others blocks = flat_map (λ block. if is_at place block then others else block ∷ []) blocks

-- a pool where the block at the place gives way to other blocks
abbrev pub replaced_in : {A : Type 0} → ℕ → List (Block A) → Pool A → Pool A
replaced_in place others pool = record pool { blocks = replaced place others pool.blocks }

-- a live block of m bytes, and what is left of the size behind it
abbrev pub split : {A : Type 0} → A → ℕ → ℕ → ℕ → List (Block A)
split owner place m size = record { place = place; size = m; owner = Some owner } ∷ gap (place + m) (size - m)

-- the block at the place, which has this size, leaves its list and is split at m bytes; what is left enters its list
abbrev pub allocated : {A : Type 0} → A → ℕ → ℕ → ℕ → Content A → Content A
allocated owner place m size content = record content {
  pools = map (replaced_in place (split owner place m size)) content.pools;
  lists = link_gap (place + m) (size - m) (unlink place size content.lists);
}

-- the block at the place is to hold m bytes; a rest needs a record
abbrev pub allocate : {A : Type 0} → A → ℕ → ℕ → ℕ → Content A → Result (ℕ × Content A) Refusal
allocate owner place m size content =
    if nat_lt m size && nat_le content.records (used_records content) then Err TableFull else Ok (place, allocated owner place m size content)

abbrev pub malloc_picked : {A : Type 0} → A → ℕ → Option ℕ → Content A → Result (ℕ × Content A) Refusal
malloc_picked owner m None content = Err NoFit
malloc_picked owner m (Some place) content = allocate owner place m (size_at place (blocks_of content.pools)) content

abbrev pub malloc_rounded : {A : Type 0} → A → Option ℕ → Content A → Result (ℕ × Content A) Refusal
malloc_rounded owner None content = Err NoFit
malloc_rounded owner (Some m) content = malloc_picked owner m (pick m content.lists) content

-- malloc(n), where the new live block is known by owner: its place and the new content, or why it is refused
abbrev pub malloc : {A : Type 0} → A → ℕ → Content A → Result (ℕ × Content A) Refusal
malloc owner n content = if n == 0 then Err ZeroSize else malloc_rounded owner (round n) content
