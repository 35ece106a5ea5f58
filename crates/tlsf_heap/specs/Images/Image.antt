-- What stands where in an image of a heap.
use Rattle.std.specs.Prelude.{ℕ, ◌+◌, ◌-◌, ◌*◌, ◌%◌, ◌==◌, nat_lt, if◌then◌else◌, Bool, List, map, Option, Some, None, slice_index, codes}
use Rattle.std.specs.List.{range_with_len, list_all}
use Rattle.tlsf_class.specs.Classes.{unit, classes}
use Rattle.tlsf_store.specs.declared.records.State.{State}
use Rattle.tlsf_store.specs.declared.records.State.TheVariants.{Free, Live}
use Rattle.tlsf_store.specs.declared.records.Record.{Record}
use Rattle.tlsf_store.specs.declared.pools.Pool.{Pool}
use Rattle.tlsf_store.specs.Records.{blank}
use Rattle.tlsf_store.specs.Cells.{most_pools}
use Rattle.tlsf_store.specs.Slots.{link_of}

-- the number of two bytes from an offset on, the lowest first, and of four
abbrev pub two_at : ℕ → List ℕ → ℕ
two_at offset bytes = slice_index bytes offset + 256 * slice_index bytes (offset + 1)

abbrev pub four_at : ℕ → List ℕ → ℕ
four_at offset bytes = two_at offset bytes + 65536 * two_at (offset + 2) bytes

-- whether this many bytes from an offset on are zero
abbrev pub are_zero : ℕ → ℕ → List ℕ → Bool
are_zero offset count bytes = list_all (λ k. slice_index bytes k == 0) (range_with_len offset count)

-- what an image begins with
abbrev pub magic : List ℕ
magic = codes "TLSFIMG1"

-- how many records and how many pools it has
abbrev pub count_at : ℕ
count_at = 8

abbrev pub pools_at : ℕ
pools_at = 10

-- zero bytes
abbrev pub zeros_at : ℕ
zeros_at = 12

-- the pool entries: base, bytes, the slot of the first record, and two zero bytes
abbrev pub entry_at : ℕ → ℕ
entry_at number = 16 + 12 * number

-- the heads: a link for each class
abbrev pub head_at : ℕ → ℕ
head_at class = 112 + 2 * class

-- the records
abbrev pub record_start : ℕ → ℕ
record_start slot = head_at classes + 16 * slot

-- the state of a block's code
abbrev pub block_state : ℕ → State
block_state code = if code == 1 then Free else Live

abbrev pub pool_in : List ℕ → ℕ → Pool
pool_in bytes number = record {
  base = four_at (entry_at number) bytes;
  bytes = four_at (entry_at number + 4) bytes;
  first = two_at (entry_at number + 8) bytes;
}

abbrev pub head_in : List ℕ → ℕ → Option ℕ
head_in bytes class = link_of (two_at (head_at class) bytes)

-- the size of a record with the code of its state below the unit
abbrev pub size_word : List ℕ → ℕ → ℕ
size_word bytes slot = four_at (record_start slot + 4) bytes

-- a vacant record has no block and no links
abbrev pub record_in : List ℕ → ℕ → Record
record_in bytes slot =
    if size_word bytes slot % unit == 0 then blank
    else record {
      place = four_at (record_start slot) bytes;
      size = size_word bytes slot - size_word bytes slot % unit;
      state = block_state (size_word bytes slot % unit);
      prev = link_of (two_at (record_start slot + 8) bytes);
      next = link_of (two_at (record_start slot + 10) bytes);
      prev_free = link_of (two_at (record_start slot + 12) bytes);
      next_free = link_of (two_at (record_start slot + 14) bytes);
    }

-- what an image describes: the pools by number, the head of each class, and the records by slot
pub record Sections : Type 0 where
  pub pools : List (Option Pool)
  pub heads : List (Option ℕ)
  pub records : List Record

abbrev pub sections_in : List ℕ → Sections
sections_in bytes = record {
  pools = map (λ number. if nat_lt number (two_at pools_at bytes) then Some (pool_in bytes number) else None) (range_with_len 0 most_pools);
  heads = map (head_in bytes) (range_with_len 0 classes);
  records = map (record_in bytes) (range_with_len 0 (two_at count_at bytes));
}
