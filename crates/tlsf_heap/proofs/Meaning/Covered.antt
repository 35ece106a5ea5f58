-- Pools that their blocks cover: the block of a node at a position, and other nodes of the same bytes there.
use Rattle.std.proofs.Common.{◌≡◌, ℕ, ◌+◌, List, [], ◌∷◌, map, subst, arith}
use Rattle.std.specs.List.{AllByRecursion}
use Rattle.tlsf_heap.specs.Content.{Block, Pool}
use Rattle.tlsf_heap.specs.Good.{Covers, AreGoodPools}
use Rattle.tlsf_heap.specs.Inner.At.{IsCovered, AreCovered}
use Rattle.tlsf_heap.specs.Inner.Nodes.{NodeState, Node, Area, block_of, pool_of}
use Rattle.tlsf_heap.specs.Inner.Positions.{plug, Position, filled}
use Rattle.tlsf_heap.proofs.Good.MallocIsGood.{IsWholeBlock, whole_in_pool}
use Rattle.tlsf_heap.proofs.Inner.Plugs.{map-plug, all_parts}

-- good pools are covered
pub covered_good : {A : Type 0} (from : ℕ) (pools : List (Pool A)) → AreGoodPools from pools → AreCovered from pools
covered_good from [] g = tt
covered_good from (pool ∷ pools) g = (g.0, record { most_bytes = g.1.most_bytes; ends = g.1.ends; covered = g.1.covered }, covered_good (pool.base + pool.bytes) pools g.2)

-- the pools behind others are covered, from some place on
covered_behind : (from : ℕ) (front areas : List Area) → AreCovered from (map pool_of (plug front areas)) → (place : ℕ) × AreCovered place (map pool_of areas)
covered_behind from [] areas c = (from, c)
covered_behind from (area ∷ front) areas c = let rest = covered_behind from front (area ∷ areas) c in (area.entry.base + area.entry.bytes, rest.1.2)

-- the block of a node is whole
pub node_whole : (position : Position) (node : Node) (nodes : List Node) → AreCovered 0 (map pool_of (filled position (node ∷ nodes))) → IsWholeBlock (block_of node)
node_whole position node nodes c =
    let pool : Pool ℕ = pool_of (record { entry = position.entry; nodes = plug position.before (node ∷ nodes) }) in
    let covered : IsCovered pool = (covered_behind 0 position.areas_before (record { entry = position.entry; nodes = plug position.before (node ∷ nodes) } ∷ position.areas_behind) c).1.1 in
    let P : List (Block ℕ) → Type 0 = λ blocks. AllByRecursion IsWholeBlock blocks in
    let all : AllByRecursion IsWholeBlock (plug (map block_of position.before) (block_of node ∷ map block_of nodes)) =
    subst P (map-plug block_of position.before (node ∷ nodes)) (whole_in_pool pool.base pool.bytes pool.base pool.blocks covered.most_bytes covered.ends (omega arith) covered.covered) in
    (all_parts IsWholeBlock (map block_of position.before) (block_of node ∷ map block_of nodes) all).1.0

covers_plug : (to : ℕ) (front olds news : List Node) → ((from : ℕ) → Covers from to (map block_of olds) → Covers from to (map block_of news)) → (from : ℕ) → Covers from to (map block_of (plug front olds)) → Covers from to (map block_of (plug front news))
covers_plug to [] olds news covers = covers
covers_plug to (node ∷ front) olds news covers = covers_plug to front (node ∷ olds) (node ∷ news) (λ from c. (c.0, c.1, c.2, covers (from + node.size) c.3))

areas_plug : (front olds news : List Area) → ((from : ℕ) → AreCovered from (map pool_of olds) → AreCovered from (map pool_of news)) → (from : ℕ) → AreCovered from (map pool_of (plug front olds)) → AreCovered from (map pool_of (plug front news))
areas_plug [] olds news covered = covered
areas_plug (area ∷ front) olds news covered = areas_plug front (area ∷ olds) (area ∷ news) (λ from c. (c.0, c.1, covered (area.entry.base + area.entry.bytes) c.2))

-- other nodes at the position that cover the same
pub covered_refilled : (position : Position) (olds news : List Node) → ((from to : ℕ) → Covers from to (map block_of olds) → Covers from to (map block_of news)) → AreCovered 0 (map pool_of (filled position olds)) → AreCovered 0 (map pool_of (filled position news))
covered_refilled position olds news covers c =
    areas_plug position.areas_before (record { entry = position.entry; nodes = plug position.before olds } ∷ position.areas_behind) (record { entry = position.entry; nodes = plug position.before news } ∷ position.areas_behind)
    (λ from were. (
      were.0,
      record { most_bytes = were.1.most_bytes; ends = were.1.ends; covered = covers_plug (position.entry.base + position.entry.bytes) position.before olds news (λ place. covers place (position.entry.base + position.entry.bytes)) position.entry.base were.1.covered },
      were.2,
    )) 0 c

-- two blocks side by side, and one of both their sizes
pub covers_both : (node_state : NodeState) (front node : Node) (nodes : List Node) → (from to : ℕ) → Covers from to (map block_of (front ∷ node ∷ nodes)) → Covers from to (map block_of (record front { size = front.size + node.size; state = node_state } ∷ nodes))
covers_both node_state front node nodes from to c =
    let P : ℕ → Type 0 = λ n. Covers n to (map block_of nodes) in
    let same : (from + front.size) + node.size ≡ from + (front.size + node.size) = omega arith in
    (c.0, omega (arith, c.1), omega (arith, c.2, c.3.2), subst P same c.3.3)
