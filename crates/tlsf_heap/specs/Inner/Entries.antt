-- The pool entries of a store.
use Rattle.std.specs.Prelude.{ℕ, ◌+◌, ◌-◌, ◌||◌, nat_le, Bool, List, ◌++◌, length, map, replicate, slice_index_or, Option, Some, None}
use Rattle.std.specs.List.{filter_map}
use Rattle.tlsf_store.specs.declared.pools.Pool.{Pool as StoredPool}
use Rattle.tlsf_store.specs.Cells.{Cells, most_pools}

-- the entries, and none behind them
abbrev pub padded : List StoredPool → List (Option StoredPool)
padded entries = map Some entries ++ replicate (most_pools - length entries) None

-- the pool of this number, none behind the last entry
abbrev pub padded_at : List StoredPool → ℕ → Option StoredPool
padded_at entries number = slice_index_or (map Some entries) number None

-- the entries that there are
abbrev pub entries_of : List (Option StoredPool) → List StoredPool
entries_of pools = filter_map (λ pool. pool) pools

-- whether the bytes from base on lie before or behind the entry's pool
abbrev pub is_entry_apart : ℕ → ℕ → StoredPool → Bool
is_entry_apart base bytes entry = nat_le (base + bytes) entry.base || nat_le (entry.base + entry.bytes) base

-- where the entry's pool begins, and its bytes
abbrev pub entry_range : StoredPool → ℕ × ℕ
entry_range entry = (entry.base, entry.bytes)

-- the cells with these entries, and none behind them
abbrev pub with_entries : List StoredPool → Cells → Cells
with_entries entries cells = record cells { pools = padded entries }
