-- Worked rows of pools that enter: what the layout stands for, in which order they stand, and the rows of one.
use Rattle.std.proofs.Common.{◌≡◌, ℕ, false, [], ◌∷◌, map, Some, None, refl}
use Rattle.tlsf_class.specs.Classes.{class, low}
use Rattle.tlsf_store.specs.Cells.{Cells, empty_cells, with_taken}
use Rattle.tlsf_store.specs.declared.pools.Pool.{Pool as StoredPool}
use Rattle.tlsf_heap.specs.Pools.{created, with_pool}
use Rattle.tlsf_heap.specs.Cursors.{rows_by, rows_left}
use Rattle.tlsf_heap.specs.Inner.Nodes.{Layout, content_by, entered, pool_node, entries_in, pool_laid}
use Rattle.tlsf_heap.specs.Inner.Represents.{pool_views, in_pool, AreLinked}
use Rattle.tlsf_heap.proofs.Inner.Empty.{empty}
use Rattle.tlsf_heap.proofs.Inner.PoolMoves.{pool_entered}

abbrev pool : ℕ → ℕ → ℕ → StoredPool
pool base bytes first = record { base = base; bytes = bytes; first = first }

-- first-split, its add_pool
one_pool : content_by (pool_laid (pool 0 1024 0) (empty 4)) ≡ with_pool 0 1024 (created 4)
unfolding class low entered
one_pool = refl

abbrev one_pool_in : Cells
one_pool_in = pool_entered (pool 0 1024 0) (with_taken (empty_cells 4) (Some 0))

its_rows : rows_left (rows_by one_pool_in.records) (Some 0) ≡ record { place = 0; size = 1024; used = false } ∷ []
unfolding class low
its_rows = refl

its_node : AreLinked in_pool (pool_views one_pool_in.records) None (pool_node (pool 0 1024 0) ∷ [])
unfolding class low
its_node = (refl, tt)

-- pools-in-order: the third enters between the other two
abbrev three_pools : Layout
three_pools = pool_laid (pool 64 64 2) (pool_laid (pool 0 64 1) (pool_laid (pool 128 64 0) (empty 3)))

in_order : map (λ (entry : StoredPool). entry.base) (entries_in three_pools.areas) ≡ 0 ∷ 64 ∷ 128 ∷ []
unfolding class low entered
in_order = refl

three_stand_for : content_by three_pools ≡ with_pool 64 64 (with_pool 0 64 (with_pool 128 64 (created 3)))
unfolding class low entered
three_stand_for = refl
