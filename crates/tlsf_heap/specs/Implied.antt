-- What a good content implies: of its blocks, and where a call is refused.
use Rattle.std.specs.Prelude.{◌≡◌, ℕ, ◌+◌, ◌*◌, ◌%◌, ◌<◌, ◌≤◌, ◌⊎◌, not, List, length, count_by, All, AllPairs, Any, Some, IsTrue}
use Rattle.tlsf_class.specs.Classes.{unit, classes, low, class, need}
use Rattle.tlsf_class.specs.Rounding.{round}
use Rattle.tlsf_heap.specs.Content.{Block, Content, blocks_of, is_free}
use Rattle.tlsf_heap.specs.Lists.{list_of}
use Rattle.tlsf_heap.specs.Memalign.{size_asked}
use Rattle.tlsf_heap.specs.Good.{times, is_listed}

-- place and size are multiples of the unit
abbrev pub IsAligned : {A : Type 0} → Block A → Type 0
IsAligned block = (block.place % unit ≡ 0) × (block.size % unit ≡ 0)

-- one block ends at or before the place of the other
abbrev pub AreDisjoint : {A : Type 0} → Block A → Block A → Type 0
AreDisjoint block other = (block.place + block.size ≤ other.place) ⊎ (other.place + other.size ≤ block.place)

-- each free block is smaller than this many bytes
abbrev pub AreFreeBelow : {A : Type 0} → ℕ → List (Block A) → Type 0
AreFreeBelow bytes blocks = All (λ block. IsTrue (is_free block) → block.size < bytes) blocks

-- where there is a class from which each block holds n bytes, rounded up, each free block is smaller than its lowest size
abbrev pub NoneFits : {A : Type 0} → ℕ → Content A → Type 0
NoneFits n content = (m c : ℕ) → round n ≡ Some m → need m ≡ Some c → AreFreeBelow (low c) (blocks_of content.pools)

-- where each block of a class holds what an alignment asks of the lists, each free block is smaller than the class's
-- lowest size
abbrev pub NoneFitsAligned : {A : Type 0} → ℕ → ℕ → Content A → Type 0
NoneFitsAligned align n content = (m c : ℕ) → round n ≡ Some m → need (size_asked align m) ≡ Some c → AreFreeBelow (low c) (blocks_of content.pools)

-- how many blocks are live
abbrev pub live_blocks : {A : Type 0} → Content A → ℕ
live_blocks content = count_by (λ block. not (is_free block)) (blocks_of content.pools)

-- there are at most two records for each live block, and one for each pool
abbrev pub HasFewRecords : {A : Type 0} → Content A → Type 0
HasFewRecords content = content.records ≤ 2 * live_blocks content + length content.pools

-- there are at most two records for each live block, one for each pool, and one more
abbrev pub HasFewRecordsAndOne : {A : Type 0} → Content A → Type 0
HasFewRecordsAndOne content = content.records ≤ 2 * live_blocks content + length content.pools + 1

-- Blocks are aligned, and each two disjoint. Each free one stands in its class's list once. What stands in a class's list is
-- the place of a free block of that class.
pub record IsLaidOut {A : Type 0} (content : Content A) : Type 0 where
  pub aligned : All IsAligned (blocks_of content.pools)
  pub disjoint : AllPairs AreDisjoint (blocks_of content.pools)
  pub listed_once : All (λ block. IsTrue (is_free block) → times block.place (list_of (class block.size) content.lists) ≡ 1) (blocks_of content.pools)
  pub listed_alone : (number place : ℕ) → number < classes → 0 < times place (list_of number content.lists) → Any (λ block. IsTrue (is_listed number place block)) (blocks_of content.pools)
