-- The bytes of memory in which a heap with addresses never refuses a program that keeps to its numbers.
use Rattle.std.specs.Prelude.{◌≡◌, ℕ, ◌+◌, ◌*◌, ◌%◌, ◌≤◌, ◌==◌, Option, Some, option_map, if◌then◌else◌}
use Rattle.tlsf_class.specs.Classes.{unit}
use Rattle.tlsf_heap.specs.Sizing.{class_size, sure_pool, sure_records, table_bytes}
use Rattle.tlsf_c.specs.Fronts.{front}
use Rattle.tlsf_c.specs.HeapPlaces.{MayBegin}

-- what a request for n bytes asks the heap for: its front, too. One for none is refused
abbrev pub with_front : ℕ → ℕ
with_front n = if n == 0 then 0 else n + front

-- The bytes of the pool: at most `blocks` blocks are live, and none is asked for with more than `largest` bytes. They have at most
-- `bytes` bytes, each rounded up. A front takes a block to the next unit at most.
abbrev pub sure_pool_with_fronts : (blocks bytes largest : ℕ) → Option ℕ
sure_pool_with_fronts blocks bytes largest = sure_pool blocks (bytes + blocks * unit) (class_size 1 (with_front largest))

-- the bytes of the memory: a control part of `part` bytes, the table, the pool, and what is skipped between them
abbrev pub sure_memory : (part blocks bytes largest : ℕ) → Option ℕ
sure_memory part blocks bytes largest = option_map (λ pool. part + front + table_bytes (sure_records blocks) + unit + pool) (sure_pool_with_fronts blocks bytes largest)

-- the memory has these bytes, of which up to 8 may be skipped in front of it. The control part has a multiple of 8
pub record HasSureBytes (memory total part blocks bytes largest : ℕ) : Type 0 where
  pub begins : MayBegin memory
  pub part_in_units : part % 8 ≡ 0
  pub sure : ℕ
  pub sure_is : sure_memory part blocks bytes largest ≡ Some sure
  pub has : sure ≤ total + 8
