-- How often a store is touched in a call.
use Rattle.std.specs.Prelude.{ℕ, ◌+◌, ◌≤◌}

-- the count rose, by at most n
pub record AtMost (n old new : ℕ) : Type 0 where
  pub floor : old ≤ new
  pub bound : new ≤ old + n

-- the bounds of the calls of a heap
abbrev pub add_pool_touches : ℕ
add_pool_touches = 25

abbrev pub remove_pool_touches : ℕ
remove_pool_touches = 26

abbrev pub malloc_touches : ℕ
malloc_touches = 21

abbrev pub malloc_or_own_touches : ℕ
malloc_or_own_touches = 23

abbrev pub memalign_touches : ℕ
memalign_touches = 35

abbrev pub free_touches : ℕ
free_touches = 30

abbrev pub realloc_touches : ℕ
realloc_touches = 54

abbrev pub block_size_touches : ℕ
block_size_touches = 1
