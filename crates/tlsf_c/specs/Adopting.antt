-- A heap and entries become a heap with addresses.
use Rattle.std.specs.Prelude.{ℕ, List, All, AllPairs, map}
use Rattle.tlsf_heap.specs.Counted.{range_of}
use Rattle.tlsf_heap.specs.Content.{Content}
use Rattle.tlsf_c.specs.LiveFigures.{AreFigures}
use Rattle.tlsf_c.specs.PlacedPools.{IsPlaced, AreApart, AreEntriesOf}
use Rattle.tlsf_c.specs.declared.live_figures.LiveFigures.{LiveFigures}
use Rattle.tlsf_c.specs.declared.placed_pool.PlacedPool.{PlacedPool}

-- the entries are placed, apart, and those of the pools that have these ranges
pub record FitEntries (ranges : List (ℕ × ℕ)) (pools : List PlacedPool) : Type 0 where
  pub placed : All IsPlaced pools
  pub apart : AllPairs AreApart pools
  pub entries : AreEntriesOf ranges pools

-- all that a heap with addresses keeps
pub record IsWhole (pools : List PlacedPool) (figures : LiveFigures) (content : Content ℕ) : Type 0 where
  pub fit : FitEntries (map range_of content.pools) pools
  pub figures_are : AreFigures figures content
