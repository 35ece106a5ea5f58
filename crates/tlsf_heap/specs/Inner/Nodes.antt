-- Nodes: the blocks of a heap with the slots of their records, by pool and by class.
use Rattle.std.specs.Prelude.{ℕ, ◌+◌, ◌-◌, Bool, true, false, not, ◌&&◌, ◌==◌, List, [], ◌∷◌, map, flat_map, filter, slice_index_or, slice_set, Option, Some, None, if◌then◌else◌}
use Rattle.tlsf_class.specs.Classes.{class}
use Rattle.tlsf_store.specs.declared.pools.Pool.{Pool as StoredPool}
use Rattle.tlsf_heap.specs.Content.{Block, Pool, Content}
use Rattle.tlsf_heap.specs.Pools.{inserted}

-- live; free and in its class's list; or free and on its way, in no list
pub data NodeState : Type 0 where
  InUse Listed Loose : NodeState

-- a block, and the slot of its record
pub record Node : Type 0 where
  pub slot : ℕ
  pub place : ℕ
  pub size : ℕ
  pub state : NodeState

-- a pool's entry, and its nodes in order of place
pub record Area : Type 0 where
  pub entry : StoredPool
  pub nodes : List Node

pub record Layout : Type 0 where
  -- how many records there are
  pub count : ℕ
  -- the pools
  pub areas : List Area
  -- by class, the nodes of its list, first one first
  pub lists : List (List Node)
  -- the slots taken for blocks to come
  pub taken : List ℕ

-- a live block is known by its slot
abbrev pub owner_of : NodeState → ℕ → Option ℕ
owner_of InUse slot = Some slot
owner_of other slot = None

abbrev pub block_of : Node → Block ℕ
block_of node = record { place = node.place; size = node.size; owner = owner_of node.state node.slot }

abbrev pub pool_of : Area → Pool ℕ
pool_of area = record { base = area.entry.base; bytes = area.entry.bytes; blocks = map block_of area.nodes }

-- the content that a layout stands for
abbrev pub content_by : Layout → Content ℕ
content_by layout = record {
  records = layout.count;
  pools = map pool_of layout.areas;
  lists = map (map (λ node. node.place)) layout.lists;
}

-- the node in another state
abbrev pub turned : NodeState → Node → Node
turned node_state node = record node { state = node_state }

-- the loose node of what is left of a node behind its first bytes
abbrev pub rest_node : ℕ → ℕ → Node → Node
rest_node rest bytes node = record { slot = rest; place = node.place + bytes; size = node.size - bytes; state = Loose }

-- all nodes, area after area
abbrev pub nodes_of : List Area → List Node
nodes_of areas = flat_map (λ area. area.nodes) areas

-- the list of a class
abbrev pub nodes_in : ℕ → List (List Node) → List Node
nodes_in number lists = slice_index_or lists number []

-- whether the node has the slot
abbrev pub has_slot : ℕ → Node → Bool
has_slot slot node = node.slot == slot

-- whether the node begins at the place
abbrev pub has_place : ℕ → Node → Bool
has_place place node = node.place == place

abbrev pub is_listed_state : NodeState → Bool
is_listed_state Listed = true
is_listed_state other = false

-- whether the node is to stand in the list of the class
abbrev pub is_listed_in : ℕ → Node → Bool
is_listed_in number node = is_listed_state node.state && (class node.size == number)

-- the nodes but that of the slot, in order
abbrev pub without_slot : ℕ → List Node → List Node
without_slot slot nodes = filter (λ node. not (has_slot slot node)) nodes

-- the node leaves its class's list
unfoldable pub left : Node → List (List Node) → List (List Node)
left node lists = slice_set lists (class node.size) (without_slot node.slot (nodes_in (class node.size) lists))

-- the node enters its class's list, in front of the others
unfoldable pub entered : Node → List (List Node) → List (List Node)
entered node lists = slice_set lists (class node.size) (node ∷ nodes_in (class node.size) lists)

-- a listed node of these bytes, or none where there are none
abbrev pub gap_nodes : (slot place size : ℕ) → List Node
gap_nodes slot place size = if size == 0 then [] else record { slot = slot; place = place; size = size; state = Listed } ∷ []

-- a node of these bytes, where there are any, enters its class's list
abbrev pub entered_gap : (slot place size : ℕ) → List (List Node) → List (List Node)
entered_gap slot place size lists = if size == 0 then lists else entered (record { slot = slot; place = place; size = size; state = Listed }) lists

-- the one node of the entry's pool
abbrev pub pool_node : StoredPool → Node
pool_node entry = record { slot = entry.first; place = entry.base; size = entry.bytes; state = Loose }

abbrev pub area_of_one : StoredPool → Node → Area
area_of_one entry node = record { entry = entry; nodes = node ∷ [] }

-- the entries of areas
abbrev pub entries_in : List Area → List StoredPool
entries_in areas = map (λ area. area.entry) areas

-- the area among the others, in order of base
abbrev pub with_area : Area → List Area → List Area
with_area area areas = inserted (λ other. other.entry.base) area areas

-- the layout with the entry's pool, whose node is in its list
abbrev pub pool_laid : StoredPool → Layout → Layout
pool_laid entry layout =
    let node = turned Listed (pool_node entry) in
    record layout { areas = with_area (area_of_one entry node) layout.areas; lists = entered node layout.lists }
