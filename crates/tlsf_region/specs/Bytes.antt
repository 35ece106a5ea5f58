-- The bytes of blocks.
use Rattle.std.specs.Prelude.{◌≡◌, ℕ, ◌+◌, ◌<◌, ◌≤◌, List, ◌++◌, take, drop, length, Option, Some, None, Ok, if◌then◌else◌, ◌==◌}
use Rattle.tlsf_heap.specs.BlockSize.{block_size}
use Rattle.tlsf_heap.specs.Content.{Content, blocks_of, size_at}
use Rattle.tlsf_heap.specs.Free.{is_live}
use Rattle.tlsf_heap.specs.Pointer.{Pointer}

-- the bytes from the place on, as many as the size
abbrev pub block_bytes : (place size : ℕ) → List ℕ → List ℕ
block_bytes place size bytes = take size (drop place bytes)

-- the bytes of the live block that the pointer names, or none where it names no live block
abbrev pub live_bytes : Pointer → Content ℕ → List ℕ → Option (List ℕ)
live_bytes ptr content bytes =
    if is_live (λ slot. slot == ptr.slot) ptr.place (blocks_of content.pools) then Some (block_bytes ptr.place (size_at ptr.place (blocks_of content.pools)) bytes)
    else None

-- the pointer names a live block of this size, which isn't empty and ends within the bytes
pub record IsSizeOf (ptr : Pointer) (size : ℕ) (content : Content ℕ) (bytes : List ℕ) : Type 0 where
  pub told : block_size (λ slot. slot == ptr.slot) ptr.place content ≡ Ok size
  pub some : 0 < size
  pub within : ptr.place + size ≤ length bytes

-- what is written over the bytes from the place on
abbrev pub overwritten : (place : ℕ) (written bytes : List ℕ) → List ℕ
overwritten place written bytes = take place bytes ++ written ++ drop (place + length written) bytes

-- a block of this size that moved took its bytes along. They are the start of the new block, and no other byte
-- changed
abbrev pub taken_along : (old new size : ℕ) → List ℕ → List ℕ
taken_along old new size bytes = if new == old then bytes else overwritten new (block_bytes old size bytes) bytes

-- the bytes after realloc(old, n) that answered new, from this content
abbrev pub bytes_after_realloc : (old new : Option Pointer) → Content ℕ → List ℕ → List ℕ
bytes_after_realloc None new content bytes = bytes
bytes_after_realloc (Some old) None content bytes = bytes
bytes_after_realloc (Some old) (Some new) content bytes = taken_along old.place new.place (size_at old.place (blocks_of content.pools)) bytes
