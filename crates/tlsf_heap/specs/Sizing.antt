-- How much memory is always enough: by how many blocks are live, by their bytes, and by what a request asks the lists for.
use Rattle.std.specs.Prelude.{ℕ, ◌+◌, ◌-◌, ◌*◌, ◌&&◌, nat_le, Option, Some, None, option_map, option_and_then, if◌then◌else◌}
use Rattle.std.specs.Int.{next_multiple_of}
use Rattle.tlsf_class.specs.Classes.{unit, greatest_size, low, need}
use Rattle.tlsf_class.specs.Rounding.{round}
use Rattle.tlsf_store.specs.Records.{most_records}
use Rattle.tlsf_heap.specs.Memalign.{is_alignment, size_asked}

-- The lowest size of the class that a request for n bytes, at a multiple of an alignment, asks the lists for: from that class on
-- each block has the bytes. None where there is no such class, or no such alignment.
abbrev pub class_size : (align n : ℕ) → Option ℕ
class_size align n = if is_alignment align then option_and_then (λ m. option_map low (need (size_asked align m))) (round n) else None

-- The most bytes of pools that may refuse a request: those of the live blocks, and for each of these and each pool the most
-- that a free block has that is too small, a unit less than the class's lowest size.
abbrev pub most_refusing : (pools blocks bytes size : ℕ) → ℕ
most_refusing pools blocks bytes size = bytes + (blocks + pools) * (size - unit)

-- the records that are enough on one pool, for aligned blocks too
abbrev pub sure_records : ℕ → ℕ
sure_records blocks = 2 * blocks + 3

-- the bytes of a table of this many records
abbrev pub table_bytes : ℕ → ℕ
table_bytes records = 16 * records + 1696

-- the least whole units above the most bytes of one pool that may refuse
abbrev pub sure_bytes : (blocks bytes size : ℕ) → ℕ
sure_bytes blocks bytes size = next_multiple_of (most_refusing 1 blocks bytes size + 1) unit

-- one pool of that many bytes; none above the greatest pool, where there can't be as many records, or no class
abbrev pub sure_pool : (blocks bytes : ℕ) → Option ℕ → Option ℕ
sure_pool blocks bytes None = None
sure_pool blocks bytes (Some size) =
    if nat_le (sure_records blocks) most_records && nat_le (sure_bytes blocks bytes size) greatest_size
    then Some (sure_bytes blocks bytes size) else None
