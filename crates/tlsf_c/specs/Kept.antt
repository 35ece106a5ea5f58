-- What a call leaves of a heap with addresses.
use Rattle.std.specs.Prelude.{◌≡◌}
use Rattle.tlsf_c.specs.Lends.{with_heap}
use Rattle.tlsf_c.specs.declared.handle.Handle.{Handle}
use Rattle.tlsf_c.specs.declared.placed_heap.PlacedHeap.{PlacedHeap}

-- the handle is of a heap in the same place in memory
abbrev pub StandsWhere : Handle → Handle → Type 0
StandsWhere old new = new ≡ with_heap old new.value

-- the program's word, where the heap stands, and where its pools lie
pub record Keeps (old new : PlacedHeap) : Type 0 where
  pub owner : new.owner ≡ old.owner
  pub stands : StandsWhere old.handle new.handle
  pub pools : new.pools ≡ old.pools
