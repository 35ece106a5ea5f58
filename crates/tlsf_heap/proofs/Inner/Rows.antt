-- Layouts of worked rows: what the cells say of their nodes, what they stand for, and what edits leave.
use Rattle.std.proofs.Common.{◌≡◌, ℕ, List, [], ◌∷◌, map, replicate, Some, None, refl}
use Rattle.tlsf_class.specs.Classes.{classes, class, low}
use Rattle.tlsf_store.specs.declared.records.State.TheVariants.{Free}
use Rattle.tlsf_store.specs.Cells.{Cells, empty_cells, with_taken}
use Rattle.tlsf_store.specs.declared.pools.Pool.{Pool as StoredPool}
use Rattle.tlsf_heap.specs.Content.{Content}
use Rattle.tlsf_store.specs.Records.{record_at}
use Rattle.tlsf_heap.specs.Inner.Edits.{linked, unlinked_by}
use Rattle.tlsf_heap.specs.Inner.Spans.{span_of, split_by}
use Rattle.tlsf_heap.specs.Free.{after_free}
use Rattle.tlsf_heap.specs.Malloc.{malloc}
use Rattle.tlsf_heap.specs.Pools.{created, with_pool}
use Rattle.std.specs.Prelude.{Ok}
use Rattle.tlsf_heap.specs.Inner.Nodes.{Node, Layout, InUse, Listed, content_by, nodes_in, left, entered}
use Rattle.tlsf_heap.specs.Inner.Positions.{Position, filled, laid}
use Rattle.tlsf_heap.specs.Inner.Represents.{pool_views, list_views, in_pool, in_list, AreLinked, first_slot}
use Rattle.tlsf_heap.proofs.Inner.PoolMoves.{pool_entered}
use Rattle.tlsf_heap.proofs.Meaning.Freed.{freed_layout}

-- a pool of 1024 bytes in a store of 4 records
abbrev entry : StoredPool
entry = record { base = 0; bytes = 1024; first = 0 }

abbrev position : List Node → Position
position before = record { areas_before = []; entry = entry; before = before; areas_behind = [] }

-- its first 112 bytes are taken
abbrev first_split : Cells
first_split =
    let old = with_taken (pool_entered entry (with_taken (empty_cells 4) (Some 0))) (Some 1) in
    let block = record_at old.records 0 in
    linked 57 1 (split_by (span_of 0 block) 1 Free None 112 (unlinked_by 64 block old))

abbrev taken : Node
taken = record { slot = 0; place = 0; size = 112; state = InUse }

abbrev rest : Node
rest = record { slot = 1; place = 112; size = 912; state = Listed }

abbrev split_layout : Layout
split_layout = laid 4 (position []) (taken ∷ rest ∷ []) (entered rest (replicate classes [])) []

in_the_pool : AreLinked in_pool (pool_views first_split.records) None (taken ∷ rest ∷ [])
unfolding class low
in_the_pool = (refl, (refl, tt))

in_the_list : AreLinked in_list (list_views first_split.records) None (nodes_in 57 split_layout.lists)
unfolding class low entered
in_the_list = (refl, tt)

the_heads : first_split.heads ≡ map first_slot split_layout.lists
unfolding class low entered
the_heads = refl

-- a step to the neighbour is no step
seen_from_the_rest : filled (position (taken ∷ [])) (rest ∷ []) ≡ filled (position []) (taken ∷ rest ∷ [])
seen_from_the_rest = refl

-- the row: malloc of 100 bytes
the_row : malloc 0 100 (with_pool 0 1024 (created 4)) ≡ Ok (0, content_by split_layout)
unfolding class low Rattle.tlsf_class.specs.Classes.need Rattle.tlsf_class.specs.Rounding.rounded entered
the_row = refl

-- sixteen bytes more are taken, and the first block is freed; then the one between two free ones is freed
abbrev front : Node
front = record { slot = 0; place = 0; size = 112; state = Listed }

abbrev middle : Node
middle = record { slot = 1; place = 112; size = 16; state = InUse }

abbrev back : Node
back = record { slot = 2; place = 128; size = 896; state = Listed }

abbrev before_free : Layout
before_free = laid 4 (position (front ∷ [])) (middle ∷ back ∷ []) (entered front (entered back (replicate classes []))) []

abbrev one_block : Content ℕ
one_block = with_pool 0 1024 (created 4)

both_sides : content_by (freed_layout 4 (position (front ∷ [])) middle (back ∷ []) before_free.lists []) ≡ one_block
unfolding class low left entered
both_sides = refl

free_both_sides : after_free 112 (content_by before_free) ≡ one_block
unfolding class low entered
free_both_sides = refl
