-- Fronts of the blocks of a heap with addresses.
use Rattle.std.specs.Prelude.{◌≡◌, ℕ, ◌+◌, List}
use Rattle.tlsf_heap.specs.Content.{Content}
use Rattle.tlsf_c.specs.Fronts.{front, told_size}
use Rattle.tlsf_c.specs.PlacedHeaps.{IsLiveAt}
use Rattle.tlsf_c.specs.declared.placed_pool.PlacedPool.{PlacedPool}
use Rattle.tlsf_c.specs.declared.placed_row.PlacedRow.{PlacedRow}

-- the word is that of a live block at the row's address, which has the row's bytes behind its front
pub record IsFrontOf (row : PlacedRow) (word : ℕ) (pools : List PlacedPool) (content : Content ℕ) : Type 0 where
  pub live : IsLiveAt row.address word pools content
  pub bytes : told_size word row.address ≡ row.bytes + front
