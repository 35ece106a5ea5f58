-- What a layout stands for after a pool entered.
use Rattle.std.proofs.Common.{◌≡◌, ◌≢◌, ℕ, ◌+◌, Bool, cond, List, [], ◌∷◌, length, map, refl, sym, ap, ◌∙◌, arith, count_by, None}
use Rattle.std.proofs.lemmas.Bool.{ne_eqb}
use Rattle.tlsf_class.specs.Classes.{classes}
use Rattle.tlsf_store.specs.declared.pools.Pool.{Pool as StoredPool}
use Rattle.tlsf_heap.specs.Content.{Block, Pool}
use Rattle.tlsf_heap.specs.Malloc.{gap}
use Rattle.tlsf_heap.specs.Lists.{link}
use Rattle.tlsf_heap.specs.Pools.{in_order_of_base, with_pool}
use Rattle.tlsf_heap.specs.Inner.Nodes.{Node, Area, Layout, Listed, turned, pool_of, content_by, nodes_of, entered, pool_node, area_of_one, with_area, pool_laid}
use Rattle.tlsf_heap.proofs.Counts.{one_if, count-cons}
use Rattle.tlsf_heap.proofs.Inserted.{map-inserted}
use Rattle.tlsf_heap.proofs.Inner.Plugs.{count-nodes, count-nodes-plug}
use Rattle.tlsf_heap.proofs.Inner.Entered.{Place, place}
use Rattle.tlsf_heap.proofs.Meaning.Places.{by_places, places-entered}

-- the nodes are one more
pub count-with_area : (test : Node → Bool) (entry : StoredPool) (node : Node) (areas : List Area) → count_by test (nodes_of (with_area (area_of_one entry node) areas)) ≡ one_if (test node) + count_by test (nodes_of areas)
count-with_area test entry node areas =
    let at : Place entry [] areas = place entry [] areas in
    let one : Area = area_of_one entry node in
    omega (
      arith,
      ap (λ all. count_by test (nodes_of all)) (at.put node),
      ap (λ all. count_by test (nodes_of all)) at.whole,
      count-nodes-plug test at.front (one ∷ at.behind),
      count-nodes-plug test at.front at.behind,
      count-nodes test one at.behind,
      count-cons test node [],
    )

pub pool_laid_is : (entry : StoredPool) (layout : Layout) → length layout.lists ≡ classes → entry.bytes ≢ 0 → content_by (pool_laid entry layout) ≡ with_pool entry.base entry.bytes (content_by layout)
pool_laid_is entry layout full some =
    let node : Node = turned Listed (pool_node entry) in
    let one : Area = area_of_one entry node in
    let block : Block ℕ = record { place = entry.base; size = entry.bytes; owner = None } in
    let whole : block ∷ [] ≡ gap entry.base entry.bytes = sym (ap (λ b. cond b [] (block ∷ [])) (ne_eqb entry.bytes 0 some)) in
    let by_pools : map pool_of (with_area one layout.areas) ≡ in_order_of_base (record { base = entry.base; bytes = entry.bytes; blocks = gap entry.base entry.bytes }) (map pool_of layout.areas) =
    map-inserted pool_of (λ (area : Area). area.entry.base) (λ (pool : Pool ℕ). pool.base) (λ area. refl) one layout.areas
    ∙ ap (λ blocks. in_order_of_base (record { base = entry.base; bytes = entry.bytes; blocks = blocks }) (map pool_of layout.areas)) whole in
    let by_lists : by_places (entered node layout.lists) ≡ link entry.base entry.bytes (by_places layout.lists) = places-entered node layout.lists full in
    λ i. record { records = layout.count; pools = by_pools i; lists = by_lists i }
