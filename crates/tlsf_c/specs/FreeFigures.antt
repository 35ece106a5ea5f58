-- Figures of what is free in a heap with addresses.
use Rattle.std.specs.Prelude.{◌≡◌, ◌≢◌, ℕ, ◌+◌, ◌<◌, ◌≤◌, ◌==◌, if◌then◌else◌, List, All, IsTrue, filter, sum_by, Option, MatchOption, Err}
use Rattle.tlsf_class.specs.Classes.{unit, greatest_size, low}
use Rattle.tlsf_heap.specs.declared.refusal.Refusal.TheVariants.{NoFit}
use Rattle.tlsf_heap.specs.Content.{Block, Content, is_free}
use Rattle.tlsf_heap.specs.Malloc.{malloc}
use Rattle.tlsf_c.specs.Fronts.{front}
use Rattle.tlsf_c.specs.PlacedHeaps.{malloc_with_front}
use Rattle.tlsf_c.specs.declared.placed_pool.PlacedPool.{PlacedPool}

-- the bytes of the free blocks among these
abbrev pub free_bytes : List (Block ℕ) → ℕ
free_bytes blocks = sum_by (λ block. block.size) (filter is_free blocks)

-- the bytes of the pool that an entry holds, 0 where it holds none
abbrev pub entry_bytes : PlacedPool → ℕ
entry_bytes pool = if pool.reach == 0 then 0 else pool.reach + front

-- For this many bytes or fewer, and a front, malloc that also looks at the bytes' own class finds a block. For more, the heap's
-- malloc finds none: a block of their own class may still have them.
pub record IsLargestWithFront (bytes : ℕ) (content : Content ℕ) : Type 0 where
  pub found : (slot n : ℕ) → n ≤ bytes → malloc_with_front slot n content ≢ Err NoFit
  pub no_fit : (slot n : ℕ) → bytes < n → malloc slot (n + front) content ≡ Err NoFit

-- no free block has more bytes than these behind a front
abbrev pub AreFreeWithin : ℕ → List (Block ℕ) → Type 0
AreFreeWithin bytes blocks = All (λ block. IsTrue (is_free block) → block.size ≤ bytes + front) blocks

-- the greatest size below a class's lowest size, or of all where there is no class
abbrev pub IsBelowClass : ℕ → Option ℕ → Type 0
IsBelowClass size class = MatchOption class (size ≡ greatest_size) (λ c. size + unit ≡ low c)
