-- A node at a position of a layout, and the steps of free there.
use Rattle.std.specs.Prelude.{◌≡◌, ℕ, ◌+◌, ◌≤◌, List, [], ◌∷◌, map, count_by, ⊤, ◌-◌, ◌++◌}
use Rattle.tlsf_class.specs.Classes.{greatest_size}
use Rattle.tlsf_store.specs.Cells.{Cells}
use Rattle.tlsf_heap.specs.Content.{Pool}
use Rattle.tlsf_heap.specs.Good.{Covers}
use Rattle.tlsf_heap.specs.Pools.{end_of_places}
use Rattle.tlsf_heap.specs.Inner.Nodes.{NodeState, InUse, Listed, Loose, Node, Area, Layout, turned, rest_node, pool_of, nodes_of, left, entered, gap_nodes, entered_gap}
use Rattle.tlsf_heap.specs.Inner.Positions.{Position, plug, filled, laid, is_loose, listed_first, past, left_by, merged_with_front, merged_with_behind, position_past}
use Rattle.tlsf_heap.specs.Inner.Represents.{Represents}

-- the blocks of the pool cover it
pub record IsCovered {A : Type 0} (pool : Pool A) : Type 0 where
  pub most_bytes : pool.bytes ≤ greatest_size
  pub ends : pool.base + pool.bytes ≤ end_of_places
  pub covered : Covers pool.base (pool.base + pool.bytes) pool.blocks

-- covered pools, each at or above the end of the one before
abbrev pub AreCovered : {A : Type 0} → ℕ → List (Pool A) → Type 0
AreCovered from [] = ⊤
AreCovered from (pool ∷ pools) = (from ≤ pool.base) × IsCovered pool × AreCovered (pool.base + pool.bytes) pools

pub record At : Type 0 where
  pub count : ℕ
  pub position : Position
  pub node : Node
  pub nodes : List Node
  pub lists : List (List Node)
  pub taken : List ℕ

abbrev pub areas_at : At → List Area
areas_at at = filled at.position (at.node ∷ at.nodes)

abbrev pub layout_at : At → Layout
layout_at at = laid at.count at.position (at.node ∷ at.nodes) at.lists at.taken

-- the node has this slot and this state, no other is loose, and the blocks cover their pools
pub record IsAt (slot : ℕ) (node_state : NodeState) (at : At) : Type 0 where
  pub slot_is : at.node.slot ≡ slot
  pub node_state_is : at.node.state ≡ node_state
  pub others_settled : count_by (λ node. is_loose node.state) (nodes_of (filled at.position at.nodes)) ≡ 0
  pub covered : AreCovered 0 (map pool_of (areas_at at))

-- the node in another state
abbrev pub at_turned : NodeState → At → At
at_turned node_state at = record at { node = turned node_state at.node }

-- a free node in front, if there is one, left its list and was merged with the node
abbrev pub previous_merged : At → At
previous_merged at = record at { position = position_past at.position; node = merged_with_front (listed_first at.position.before) at.node; lists = left_by (listed_first at.position.before) at.lists }

-- a free node behind, if there is one, left its list and was merged with the node
abbrev pub next_merged : At → At
next_merged at = record at { node = merged_with_behind (listed_first at.nodes) at.node; nodes = past at.nodes; lists = left_by (listed_first at.nodes) at.lists }

-- the node entered its list
abbrev pub at_listed : At → At
at_listed at = record at { node = turned Listed at.node; lists = entered (turned Listed at.node) at.lists }

-- the node left its list
abbrev pub at_unlisted : At → At
at_unlisted at = record at { node = turned Loose at.node; lists = left (turned Listed at.node) at.lists }

-- the node left its list, and is in use
abbrev pub at_taken : At → At
at_taken at = record at { node = turned InUse at.node; lists = left (turned Listed at.node) at.lists }

-- a slot was taken for a block to come
abbrev pub with_slot : ℕ → At → At
with_slot slot at = record at { taken = slot ∷ at.taken }

-- the node of what is left behind the first bytes of the node, which keeps those
abbrev pub at_split : ℕ → ℕ → At → At
at_split rest bytes at = record at { position = record at.position { before = record at.node { size = bytes } ∷ at.position.before }; node = rest_node rest bytes at.node }

-- the node of what is left behind the first bytes entered its list
abbrev pub at_split_off : ℕ → ℕ → At → At
at_split_off rest bytes at = at_listed (at_split rest bytes at)

-- the node keeps its first bytes, and a listed one of what is left stands behind it, where anything is
abbrev pub at_split_rest : ℕ → ℕ → At → At
at_split_rest rest bytes at = record at {
  node = record at.node { size = bytes };
  nodes = gap_nodes rest (at.node.place + bytes) (at.node.size - bytes) ++ at.nodes;
  lists = entered_gap rest (at.node.place + bytes) (at.node.size - bytes) at.lists;
}

-- a listed node of its first bytes, where there are any, has its slot; it begins behind them, with a slot of its own
abbrev pub at_gapped : ℕ → ℕ → At → At
at_gapped live bytes at = record at {
  position = record at.position { before = gap_nodes at.node.slot at.node.place bytes ++ at.position.before };
  node = record at.node { slot = live; place = at.node.place + bytes; size = at.node.size - bytes };
  lists = entered_gap at.node.slot at.node.place bytes at.lists;
}

-- a node in use became free, was merged with the free ones beside it, and entered its list
abbrev pub at_freed : At → At
at_freed at = at_listed (next_merged (previous_merged at))

-- the layout without the node's area, whose node left its list
abbrev pub without_area : At → Layout
without_area at = record { count = at.count; areas = plug at.position.areas_before at.position.areas_behind; lists = left (turned Listed at.node) at.lists; taken = at.taken }

-- the cells represent the layout, and the node has this slot and this state
abbrev pub StandsAt : ℕ → NodeState → Cells → At → Type 0
StandsAt slot node_state cells at = Represents cells (layout_at at) × IsAt slot node_state at
