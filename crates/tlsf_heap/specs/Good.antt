-- What every heap keeps.
use Rattle.std.specs.Prelude.{◌≡◌, ℕ, ◌+◌, ◌%◌, ◌<◌, ◌≤◌, Bool, false, not, ◌&&◌, List, [], ◌∷◌, length, count_by, ◌==◌, IsTrue, ⊤}
use Rattle.tlsf_class.specs.Classes.{unit, classes, greatest_size, class}
use Rattle.tlsf_heap.specs.Content.{Block, Pool, Content, blocks_of, is_free, is_at, used_records}
use Rattle.tlsf_heap.specs.Lists.{list_of}
use Rattle.tlsf_heap.specs.Pools.{most_pools, end_of_places}

-- the blocks cover all from one place to another, in order, each of a positive number of units
abbrev pub Covers : {A : Type 0} → ℕ → ℕ → List (Block A) → Type 0
Covers from to [] = from ≡ to
Covers from to (block ∷ blocks) = (block.place ≡ from) × (0 < block.size) × (block.size % unit ≡ 0) × Covers (from + block.size) to blocks

-- no free block stands behind a free one; after_free: one stands in front of the first
abbrev pub NoFreeNeighbours : {A : Type 0} → Bool → List (Block A) → Type 0
NoFreeNeighbours after_free [] = ⊤
NoFreeNeighbours after_free (block ∷ blocks) = IsTrue (not (after_free && is_free block)) × NoFreeNeighbours (is_free block) blocks

pub record IsGoodPool {A : Type 0} (pool : Pool A) : Type 0 where
  pub base_in_units : pool.base % unit ≡ 0
  pub bytes_in_units : pool.bytes % unit ≡ 0
  pub least_bytes : unit ≤ pool.bytes
  pub most_bytes : pool.bytes ≤ greatest_size
  pub ends : pool.base + pool.bytes ≤ end_of_places
  pub covered : Covers pool.base (pool.base + pool.bytes) pool.blocks
  pub merged : NoFreeNeighbours false pool.blocks

-- good pools, each at or above the end of the one before
abbrev pub AreGoodPools : {A : Type 0} → ℕ → List (Pool A) → Type 0
AreGoodPools from [] = ⊤
AreGoodPools from (pool ∷ pools) = (from ≤ pool.base) × IsGoodPool pool × AreGoodPools (pool.base + pool.bytes) pools

-- how often the place stands in the list
abbrev pub times : ℕ → List ℕ → ℕ
times place places = count_by (λ other. other == place) places

-- a free block of this class begins at the place
abbrev pub is_listed : {A : Type 0} → ℕ → ℕ → Block A → Bool
is_listed number place block = is_free block && (is_at place block && (class block.size == number))

-- each class's list holds the places of the free blocks of that class, each once, and no others
abbrev pub AreLists : {A : Type 0} → List (Block A) → List (List ℕ) → Type 0
AreLists blocks lists = (number place : ℕ) → number < classes → times place (list_of number lists) ≡ count_by (is_listed number place) blocks

pub record IsGood {A : Type 0} (content : Content A) : Type 0 where
  pub pools_few : length content.pools ≤ most_pools
  pub pools_good : AreGoodPools 0 content.pools
  pub lists_count : length content.lists ≡ classes
  pub listed : AreLists (blocks_of content.pools) content.lists
  pub blocks_few : used_records content ≤ content.records
