-- free: the block and its free neighbours in the pool give way to one free block.
use Rattle.std.specs.Prelude.{ℕ, ◌+◌, Bool, false, ◌&&◌, List, [], ◌∷◌, map, Option, Some, None, Result, Ok, Err, if◌then◌else◌}
use Rattle.std.specs.List.{list_any}
use Rattle.std.specs.Option.{option_or}
use Rattle.tlsf_heap.specs.declared.refusal.Refusal.{Refusal}
use Rattle.tlsf_heap.specs.declared.refusal.Refusal.TheVariants.{BadPointer}
use Rattle.tlsf_heap.specs.Content.{Block, Pool, Content, blocks_of, is_free, is_at, size_at}
use Rattle.tlsf_heap.specs.Lists.{link, unlink}
use Rattle.tlsf_heap.specs.Malloc.{replaced_in}

module _ {A : Type 0} where
  -- whether the block is live and its owner is meant
  abbrev pub is_owned_by : (A → Bool) → Option A → Bool
  is_owned_by is_meant None = false
  is_owned_by is_meant (Some owner) = is_meant owner

  -- whether a live block has this place and the owner that is meant
  abbrev pub is_live : (A → Bool) → ℕ → List (Block A) → Bool
  is_live is_meant place blocks = list_any (λ block. is_at place block && is_owned_by is_meant block.owner) blocks

  -- the block before the one at the place, and the one after it
  abbrev pub previous_of : ℕ → List (Block A) → Option (Block A)
  previous_of place (block ∷ next ∷ blocks) = if is_at place next then Some block else previous_of place (next ∷ blocks)
  previous_of place blocks = None

  abbrev pub next_of : ℕ → List (Block A) → Option (Block A)
  next_of place (block ∷ next ∷ blocks) = if is_at place block then Some next else next_of place (next ∷ blocks)
  next_of place blocks = None

  -- the block, where it is free
  abbrev pub if_free : Option (Block A) → Option (Block A)
  if_free None = None
  if_free (Some block) = if is_free block then Some block else None

  -- the block that `tell` gives of the first pool of which it gives one
  abbrev pub first_in_pools : (List (Block A) → Option (Block A)) → List (Pool A) → Option (Block A)
  first_in_pools tell [] = None
  first_in_pools tell (pool ∷ pools) = option_or (tell pool.blocks) (first_in_pools tell pools)

  -- the free neighbours in the pool
  abbrev pub free_previous : ℕ → Content A → Option (Block A)
  free_previous place content = if_free (first_in_pools (previous_of place) content.pools)

  abbrev pub free_next : ℕ → Content A → Option (Block A)
  free_next place content = if_free (first_in_pools (next_of place) content.pools)

  -- a neighbour leaves its list
  abbrev pub unlink_block : Option (Block A) → List (List ℕ) → List (List ℕ)
  unlink_block None lists = lists
  unlink_block (Some block) lists = unlink block.place block.size lists

  -- the size of a neighbour, 0 where there is none
  abbrev pub size_of : Option (Block A) → ℕ
  size_of None = 0
  size_of (Some block) = block.size

  -- where the block that is left begins: with the neighbour before it, or at the place
  abbrev pub start_of : Option (Block A) → ℕ → ℕ
  start_of None place = place
  start_of (Some block) place = block.place

  -- one free block
  abbrev pub free_block : ℕ → ℕ → Block A
  free_block place size = record { place = place; size = size; owner = None }

  -- a block, where there is one, gives way to nothing
  abbrev pub without_block : Option (Block A) → List (Pool A) → List (Pool A)
  without_block None pools = pools
  without_block (Some block) pools = map (replaced_in block.place []) pools

  -- the content after free. The free neighbours are gone, from their lists too. The block gives way to a free
  -- one of all their bytes, which enters its list in front
  abbrev pub after_free : ℕ → Content A → Content A
  after_free place content =
      let previous = free_previous place content in
      let next = free_next place content in
      let start = start_of previous place in
      let size = size_of previous + size_at place (blocks_of content.pools) + size_of next in
      record content {
        pools = map (replaced_in place (free_block start size ∷ [])) (without_block next (without_block previous content.pools));
        lists = link start size (unlink_block next (unlink_block previous content.lists));
      }

  -- free of the block at the place whose owner is meant: the new content, or BadPointer
  abbrev pub free : (A → Bool) → ℕ → Content A → Result (Content A) Refusal
  free is_meant place content = if is_live is_meant place (blocks_of content.pools) then Ok (after_free place content) else Err BadPointer
