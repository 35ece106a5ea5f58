-- create, add_pool and remove_pool.
use Rattle.std.specs.Prelude.{ℕ, ◌+◌, Bool, not, ◌&&◌, ◌||◌, List, [], ◌∷◌, length, replicate, filter, find, Option, Some, None, Result, Ok, Err, if◌then◌else◌, ◌==◌, nat_lt, nat_le}
use Rattle.std.specs.List.{list_all}
use Rattle.tlsf_heap.specs.declared.refusal.Refusal.{Refusal}
use Rattle.tlsf_heap.specs.declared.refusal.Refusal.TheVariants.{BadPool, PoolsFull, TableFull, NoPool, PoolInUse}
use Rattle.tlsf_class.specs.Classes.{classes}
pub use Rattle.tlsf_store.specs.Records.{most_records}
pub use Rattle.tlsf_store.specs.Cells.{most_pools}
pub use Rattle.tlsf_store.specs.Ranges.{end_of_places, can_be_pool}
use Rattle.tlsf_heap.specs.Content.{Pool, Content, is_free, used_records}
use Rattle.tlsf_heap.specs.Lists.{link, unlink}
use Rattle.tlsf_heap.specs.Malloc.{gap}

-- a heap of this many records, with no pool
abbrev pub created : {A : Type 0} → ℕ → Content A
created records = record { records = records; pools = []; lists = replicate classes [] }

-- whether the bytes from base on lie before or behind the pool
abbrev pub is_apart : {A : Type 0} → ℕ → ℕ → Pool A → Bool
is_apart base bytes pool = nat_le (base + bytes) pool.base || nat_le (pool.base + pool.bytes) base

-- the item stands in front of the first one whose key is greater
abbrev pub inserted : {A : Type 0} → (A → ℕ) → A → List A → List A
inserted key item [] = item ∷ []
inserted key item (other ∷ items) = if nat_lt (key item) (key other) then item ∷ other ∷ items else other ∷ inserted key item items

-- the pool stands before the first one that begins behind it
abbrev pub in_order_of_base : {A : Type 0} → Pool A → List (Pool A) → List (Pool A)
in_order_of_base pool pools = inserted (λ other. other.base) pool pools

-- the pool is one free block, in front of its class's list
abbrev pub with_pool : {A : Type 0} → ℕ → ℕ → Content A → Content A
with_pool base bytes content = record content {
  pools = in_order_of_base (record { base = base; bytes = bytes; blocks = gap base bytes }) content.pools;
  lists = link base bytes content.lists;
}

-- add_pool(base, bytes): the new content, or why it is refused
abbrev pub add_pool : {A : Type 0} → ℕ → ℕ → Content A → Result (Content A) Refusal
add_pool base bytes content =
    if not (can_be_pool base bytes && list_all (is_apart base bytes) content.pools) then Err BadPool else
    (if nat_le most_pools (length content.pools) then Err PoolsFull else
    (if nat_le content.records (used_records content) then Err TableFull else Ok (with_pool base bytes content)))

-- whether the pool begins at the base
abbrev pub is_based : {A : Type 0} → ℕ → Pool A → Bool
is_based base pool = pool.base == base

-- whether the pool is one free block
abbrev pub is_unused : {A : Type 0} → Pool A → Bool
is_unused pool = (length pool.blocks == 1) && list_all is_free pool.blocks

-- the pool is gone, and its block from its list
abbrev pub without_pool : {A : Type 0} → Pool A → Content A → Content A
without_pool pool content = record content {
  pools = filter (λ other. not (is_based pool.base other)) content.pools;
  lists = unlink pool.base pool.bytes content.lists;
}

abbrev pub remove_found : {A : Type 0} → Option (Pool A) → Content A → Result (Content A) Refusal
remove_found None content = Err NoPool
remove_found (Some pool) content = if is_unused pool then Ok (without_pool pool content) else Err PoolInUse

-- remove_pool(base): the new content, or why it is refused
abbrev pub remove_pool : {A : Type 0} → ℕ → Content A → Result (Content A) Refusal
remove_pool base content = remove_found (find (is_based base) content.pools) content
