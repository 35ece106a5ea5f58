-- What a heap holds: its pools with their blocks, and the free list of each class.
use Rattle.std.specs.Prelude.{◌≡◌, ◌<◌, ◌≤◌, ◌%◌, ℕ, Bool, List, length, Option, is_none, flat_map, find, option_map, unwrap_or, ◌==◌}
use Rattle.tlsf_class.specs.Classes.{unit, greatest_size}

-- what a block can have of bytes
pub record IsSize (size : ℕ) : Type 0 where
  pub positive : 0 < size
  pub in_units : size % unit ≡ 0
  pub at_most : size ≤ greatest_size

-- a block: where it begins, its size in bytes, and what its owner knows it by; a free block has none
pub record Block (A : Type 0) : Type 0 where
  pub place : ℕ
  pub size : ℕ
  pub owner : Option A

-- a pool: where it begins, its bytes, and its blocks in order of place
pub record Pool (A : Type 0) : Type 0 where
  pub base : ℕ
  pub bytes : ℕ
  pub blocks : List (Block A)

-- a heap of this many records: its pools in order of base, and for each class the places of its free list, first one first
pub record Content (A : Type 0) : Type 0 where
  pub records : ℕ
  pub pools : List (Pool A)
  pub lists : List (List ℕ)

abbrev pub is_free : {A : Type 0} → Block A → Bool
is_free block = is_none block.owner

-- all blocks, pool after pool
abbrev pub blocks_of : {A : Type 0} → List (Pool A) → List (Block A)
blocks_of pools = flat_map (λ pool. pool.blocks) pools

-- whether a block begins at the place
abbrev pub is_at : {A : Type 0} → ℕ → Block A → Bool
is_at place block = block.place == place

-- the size of the first block that begins at the place, 0 where none does
abbrev pub size_at : {A : Type 0} → ℕ → List (Block A) → ℕ
size_at place blocks = unwrap_or (option_map (λ block. block.size) (find (is_at place) blocks)) 0

-- how many records are in use: one a block
abbrev pub used_records : {A : Type 0} → Content A → ℕ
used_records content = length (blocks_of content.pools)
