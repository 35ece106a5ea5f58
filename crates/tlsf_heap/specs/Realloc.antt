-- realloc: a live block of another size, in its place or moved.
use Rattle.std.specs.Prelude.{ℕ, ◌+◌, ◌-◌, Bool, not, ◌||◌, map, is_some, Option, Some, None, Result, Ok, Err, if◌then◌else◌, ◌==◌, nat_lt, nat_le}
use Rattle.tlsf_heap.specs.declared.refusal.Refusal.{Refusal}
use Rattle.tlsf_heap.specs.declared.refusal.Refusal.TheVariants.{NoFit, BadPointer}
use Rattle.tlsf_class.specs.Rounding.{round}
use Rattle.tlsf_heap.specs.Content.{Content, blocks_of, size_at, used_records}
use Rattle.tlsf_heap.specs.Malloc.{link_gap, replaced_in, split, malloc, malloc_rounded}
use Rattle.tlsf_heap.specs.Free.{is_live, free_next, unlink_block, without_block, size_of, after_free}

module _ {A : Type 0} where
  -- the bytes of the block at the place and of the free one behind it, where one is
  abbrev pub size_with_next : ℕ → Content A → ℕ
  size_with_next place content = size_at place (blocks_of content.pools) + size_of (free_next place content)

  -- the live block at the place, with the free one behind it, is split at m bytes. The free one leaves its list, and
  -- the rest enters its list
  abbrev pub resized : A → (place m : ℕ) → Content A → Content A
  resized owner place m content =
      let next = free_next place content in
      let size = size_with_next place content in
      record content {
        pools = map (replaced_in place (split owner place m size)) (without_block next content.pools);
        lists = link_gap (place + m) (size - m) (unlink_block next content.lists);
      }

  -- whether the block at the place can have m bytes where it is. To get larger, it needs m bytes with the free block
  -- behind it. To get smaller, it needs a free block behind it, or a record for the rest
  abbrev pub fits_in_place : (place m : ℕ) → Content A → Bool
  fits_in_place place m content =
      if nat_lt m (size_at place (blocks_of content.pools)) then is_some (free_next place content) || nat_lt (used_records content) content.records
      else nat_le m (size_with_next place content)

  -- the new block was given, and the old one is freed
  abbrev pub moved : A → ℕ → Result (ℕ × Content A) Refusal → Result (Option (ℕ × A) × Content A) Refusal
  moved owner old (Err refusal) = Err refusal
  moved owner old (Ok (place, content)) = Ok (Some (place, owner), after_free old content)

  -- the live block at the place, known by `known`, is to have m bytes
  abbrev pub realloc_sized : A → (place : ℕ) (known : A) → ℕ → Content A → Result (Option (ℕ × A) × Content A) Refusal
  realloc_sized owner place known m content =
      let size = size_at place (blocks_of content.pools) in
      if m == size then Ok (Some (place, known), content) else
      (if fits_in_place place m content then Ok (Some (place, known), resized known place m content) else
      (if nat_lt m size then Ok (Some (place, known), content) else moved owner place (malloc_rounded owner (Some m) content)))

  abbrev pub realloc_rounded : A → (place : ℕ) (known : A) → Option ℕ → Content A → Result (Option (ℕ × A) × Content A) Refusal
  realloc_rounded owner place known None content = Err NoFit
  realloc_rounded owner place known (Some m) content = realloc_sized owner place known m content

  -- a block was given where none was
  abbrev pub given_anew : A → Result (ℕ × Content A) Refusal → Result (Option (ℕ × A) × Content A) Refusal
  given_anew owner (Err refusal) = Err refusal
  given_anew owner (Ok (place, content)) = Ok (Some (place, owner), content)

  -- realloc(pointer, n). `same` compares what blocks are known by, and a new live block is known by owner. The answer
  -- is where the block is now, or none where it was freed, and the new content; or why it is refused
  abbrev pub realloc : (same : A → A → Bool) → A → Option (ℕ × A) → ℕ → Content A → Result (Option (ℕ × A) × Content A) Refusal
  realloc same owner None n content = given_anew owner (malloc owner n content)
  realloc same owner (Some (place, known)) n content =
      if not (is_live (λ other. same other known) place (blocks_of content.pools)) then Err BadPointer else
      (if n == 0 then Ok (None, after_free place content) else realloc_rounded owner place known (round n) content)
