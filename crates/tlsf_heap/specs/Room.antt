-- Where a request is served whatever was asked before: told by bytes and numbers of blocks alone.
use Rattle.std.specs.Prelude.{◌≡◌, ℕ, ◌+◌, ◌-◌, ◌*◌, ◌<◌, ◌≤◌, List, [], ◌∷◌, length, Some, if◌then◌else◌}
use Rattle.tlsf_class.specs.Classes.{unit, low, need}
use Rattle.tlsf_class.specs.Rounding.{round}
use Rattle.tlsf_heap.specs.Content.{Block, Pool, Content, blocks_of, is_free}
use Rattle.tlsf_heap.specs.Memalign.{size_asked}
use Rattle.tlsf_heap.specs.Implied.{live_blocks}

-- the bytes of the live blocks among these
abbrev pub live_bytes : {A : Type 0} → List (Block A) → ℕ
live_bytes [] = 0
live_bytes (block ∷ blocks) = (if is_free block then 0 else block.size) + live_bytes blocks

-- the bytes of all pools
abbrev pub pool_bytes : {A : Type 0} → List (Pool A) → ℕ
pool_bytes [] = 0
pool_bytes (pool ∷ pools) = pool.bytes + pool_bytes pools

-- The bytes n are m when rounded up, and the lists are then asked for a block of `asked m` bytes. Each block of class c or above has
-- them. The pools have more bytes than the live blocks and a share for each live block and each pool. That share is what a free block
-- has at most that is too small: a unit less than the lowest size of class c. There are two records for each live block, one for each
-- pool, and one for each rest.
pub record HasRoomFor {A : Type 0} (asked : ℕ → ℕ) (rests n : ℕ) (content : Content A) : Type 0 where
  pub m : ℕ
  pub rounds : round n ≡ Some m
  pub c : ℕ
  pub needed : need (asked m) ≡ Some c
  pub bytes : live_bytes (blocks_of content.pools) + (live_blocks content + length content.pools) * (low c - unit) < pool_bytes content.pools
  pub records : 2 * live_blocks content + length content.pools + rests ≤ content.records

-- there is room for malloc and realloc, which may leave a rest behind the block
abbrev pub HasRoom : {A : Type 0} → ℕ → Content A → Type 0
HasRoom n content = HasRoomFor (λ m. m) 1 n content

-- there is room for memalign, which may leave a rest in front of the block too
abbrev pub HasRoomAligned : {A : Type 0} → ℕ → ℕ → Content A → Type 0
HasRoomAligned align n content = HasRoomFor (size_asked align) 2 n content
