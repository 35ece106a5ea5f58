-- Chunks as two lists: the keys of all chunks that are in use, and the rows of all chunks.
use Rattle.std.specs.Prelude.{◌≡◌, ◌≢◌, ℕ, suc, ◌+◌, ◌-◌, ◌*◌, ◌/◌, ◌^◌, ◌<◌, ◌≤◌, List, length, slice_index_or}
use Rattle.std.specs.List.{flat_map, AllByRecursion}
use Rattle.mtrace_replay.specs.declared.heap.key.Key.{Key}
use Rattle.mtrace_replay.specs.declared.heap.keys.Chunk.{Chunk}
use Rattle.mtrace_replay.specs.Entry.{Entry}

-- the rows by number, and how many there can be
pub record Rows : Type 0 where
  pub entries : List Entry
  pub room : ℕ

-- the number of a slot's row: a heap gives its last slot first
abbrev pub row_number : Rows → ℕ → ℕ
row_number rows slot = rows.room - suc slot

abbrev pub row_at : Rows → ℕ → Entry → Entry
row_at rows slot default = slice_index_or rows.entries (row_number rows slot) default

abbrev pub HasRow : Rows → ℕ → Type 0
HasRow rows slot = (slot < rows.room) × (row_number rows slot < length rows.entries)

-- the keys in order, and the rows
pub record Kept : Type 0 where
  pub keys : List Key
  pub rows : Rows

abbrev pub all_keys : List Chunk → List Key
all_keys chunks = flat_map (λ chunk. chunk.keys) chunks

abbrev pub all_rows : List Chunk → List Entry
all_rows chunks = flat_map (λ chunk. chunk.rows) chunks

-- each chunk has 64 keys and 64 rows
pub record IsWholeChunk (chunk : Chunk) : Type 0 where
  pub keys : length chunk.keys ≡ 64
  pub rows : length chunk.rows ≡ 64

abbrev pub AreWholeChunks : List Chunk → Type 0
AreWholeChunks chunks = AllByRecursion IsWholeChunk chunks

-- the chunks have the keys in use, and there is memory for exactly as many chunks as the index was made for
pub record AreChunks (chunks : List Chunk) (memory len room most : ℕ) : Type 0 where
  pub whole : AreWholeChunks chunks
  pub used : len ≤ 64 * length chunks
  pub within : len ≤ room
  pub fits : room ≤ most
  pub reserved : memory ≡ (most + 63) / 64
  pub few : room < 2 ^ 32

-- the rows that there were stay, and more may be there
pub record KeepsRows (old new : Rows) : Type 0 where
  pub room : new.room ≡ old.room
  pub more : length old.entries ≤ length new.entries
  pub same : (slot : ℕ) (default : Entry) → HasRow old slot → row_at new slot default ≡ row_at old slot default

-- the row of that slot is the entry, and the others stay
pub record SetsRow (slot : ℕ) (entry : Entry) (old new : Rows) : Type 0 where
  pub room : new.room ≡ old.room
  pub more : length old.entries ≤ length new.entries
  pub there : HasRow new slot
  pub is : (default : Entry) → row_at new slot default ≡ entry
  pub same : (other : ℕ) (default : Entry) → HasRow old other → other ≢ slot → row_at new other default ≡ row_at old other default
