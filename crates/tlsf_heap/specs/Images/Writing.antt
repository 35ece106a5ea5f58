-- The bytes of an image of sections.
use Rattle.std.specs.Prelude.{◌≡◌, ℕ, ◌+◌, ◌/◌, ◌%◌, List, [], ◌∷◌, ◌++◌, length, replicate, Option, Some, None}
use Rattle.std.specs.List.{flat_map}
use Rattle.tlsf_store.specs.declared.records.State.{State}
use Rattle.tlsf_store.specs.declared.records.State.TheVariants.{Vacant, Free, Live}
use Rattle.tlsf_store.specs.declared.records.Record.{Record}
use Rattle.tlsf_store.specs.declared.pools.Pool.{Pool}
use Rattle.tlsf_store.specs.Slots.{missing}
use Rattle.tlsf_heap.specs.Images.Image.{magic, Sections}
use Rattle.tlsf_heap.specs.Inner.Entries.{entries_of}

-- a text of a known length is appended
pub record Appends (old new text : List ℕ) (count : ℕ) : Type 0 where
  pub bytes : new ≡ old ++ text
  pub len : length new ≡ length old + count

-- a number in two bytes, the lowest first, and in four
abbrev pub two : ℕ → List ℕ
two n = n % 256 ∷ n / 256 ∷ []

abbrev pub four : ℕ → List ℕ
four n = two (n % 65536) ++ two (n / 65536)

-- the word of a link
abbrev pub word_of : Option ℕ → ℕ
word_of None = missing
word_of (Some slot) = slot

-- a block, with the code of its state
abbrev pub block_bytes : ℕ → Record → List ℕ
block_bytes code r = four r.place ++ (four (r.size + code) ++ (two (word_of r.prev) ++ (two (word_of r.next) ++ (two (word_of r.prev_free) ++ two (word_of r.next_free)))))

-- a record in this state; a vacant one is zero
abbrev pub bytes_in : State → Record → List ℕ
bytes_in Vacant r = replicate 16 0
bytes_in Free r = block_bytes 1 r
bytes_in Live r = block_bytes 2 r

abbrev pub record_bytes : Record → List ℕ
record_bytes r = bytes_in r.state r

-- an entry without a pool is zero
abbrev pub entry_bytes : Option Pool → List ℕ
entry_bytes None = replicate 12 0
entry_bytes (Some pool) = four pool.base ++ (four pool.bytes ++ (two pool.first ++ replicate 2 0))

abbrev pub head_bytes : Option ℕ → List ℕ
head_bytes link = two (word_of link)

-- the magic, how many records and pools there are, and zeros
abbrev pub header_bytes : Sections → List ℕ
header_bytes sections = magic ++ (two (length sections.records) ++ (two (length (entries_of sections.pools)) ++ replicate 4 0))

abbrev pub image_of : Sections → List ℕ
image_of sections = header_bytes sections ++ (flat_map entry_bytes sections.pools ++ (flat_map head_bytes sections.heads ++ flat_map record_bytes sections.records))
