-- What contracts see of a region: its heap's content, how often its store was touched, and the rows from each slot
-- on; and its bytes.
use Rattle.std.specs.Prelude.{◌≡◌, ℕ, ◌+◌, ◌≤◌, nat_le, List, [], ◌∷◌, length, map, ⊤, Result, Err, if◌then◌else◌}
use Rattle.tlsf_heap.specs.declared.refusal.Refusal.{Refusal}
use Rattle.tlsf_heap.specs.declared.refusal.Refusal.TheVariants.{BadPool}
use Rattle.tlsf_heap.specs.declared.row.Row.{Row}
use Rattle.tlsf_heap.specs.Content.{Content}
use Rattle.tlsf_heap.specs.Counted.{range_of}
use Rattle.tlsf_heap.specs.Pools.{end_of_places, add_pool}
use Rattle.tlsf_heap.specs.Touches.{AtMost}

pub record CountedRegion : Type 0 where
  pub content : Content ℕ
  pub touches : ℕ
  pub rows : List (List Row)
  pub bytes : List ℕ

-- each of these pools, known by where it begins and its bytes, ends at or below the place
abbrev pub EndBelow : ℕ → List (ℕ × ℕ) → Type 0
EndBelow place [] = ⊤
EndBelow place (range ∷ ranges) = (range.0 + range.1 ≤ place) × EndBelow place ranges

-- there are at most as many bytes as places, and each pool ends at or below their end
pub record IsWithin (content : Content ℕ) (bytes : List ℕ) : Type 0 where
  pub places : length bytes ≤ end_of_places
  pub pools : EndBelow (length bytes) (map range_of content.pools)

-- the heap's content is as it was, and each cursor stands where it stood, with the rows that are to come
pub record IsUnchanged (old new : CountedRegion) : Type 0 where
  pub content : new.content ≡ old.content
  pub rows : new.rows ≡ old.rows

-- all is as it was, the bytes too
pub record IsAsBefore (old new : CountedRegion) : Type 0 where
  pub unchanged : IsUnchanged old new
  pub bytes : new.bytes ≡ old.bytes

-- no byte changes, and there are at most n touches
pub record KeepsBytes (n : ℕ) (old new : CountedRegion) : Type 0 where
  pub bytes : new.bytes ≡ old.bytes
  pub bound : AtMost n old.touches new.touches

-- a reading: nothing changes, and there are at most n touches
pub record Reads (n : ℕ) (old new : CountedRegion) : Type 0 where
  pub unchanged : IsUnchanged old new
  pub bytes : new.bytes ≡ old.bytes
  pub bound : AtMost n old.touches new.touches

-- add_pool(base, bytes) over this many bytes: as of a heap, and BadPool also where the pool ends above them
abbrev pub add_pool_within : {A : Type 0} → (length base bytes : ℕ) → Content A → Result (Content A) Refusal
add_pool_within length base bytes content = if nat_le (base + bytes) length then add_pool base bytes content else Err BadPool
