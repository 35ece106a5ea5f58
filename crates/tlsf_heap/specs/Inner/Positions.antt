-- A position in a layout: what stands in front of it and behind it, the nearest first. A node there, and the free ones beside
-- it, merged.
use Rattle.std.specs.Prelude.{ℕ, List, [], ◌∷◌, ◌+◌, Bool, true, false, Option, Some, None, if◌then◌else◌}
use Rattle.tlsf_store.specs.declared.pools.Pool.{Pool as StoredPool}
use Rattle.tlsf_heap.specs.Inner.Nodes.{Node, Area, Layout, NodeState, InUse, Loose, is_listed_state, left}

-- the items in front, nearest first, and then those behind
abbrev pub plug : {A : Type 0} → List A → List A → List A
plug [] behind = behind
plug (item ∷ front) behind = plug front (item ∷ behind)

-- a place between the nodes of an area
pub record Position : Type 0 where
  -- the areas in front of its own, nearest first
  pub areas_before : List Area
  -- the entry of its area
  pub entry : StoredPool
  -- the nodes of its area in front of it, nearest first
  pub before : List Node
  -- the areas behind its own, in order
  pub areas_behind : List Area

-- the areas with these nodes at the position, up to the end of its area
abbrev pub filled : Position → List Node → List Area
filled position nodes = plug position.areas_before (record { entry = position.entry; nodes = plug position.before nodes } ∷ position.areas_behind)

-- the layout with these nodes at the position
abbrev pub laid : ℕ → Position → List Node → List (List Node) → List ℕ → Layout
laid count position nodes lists taken = record { count = count; areas = filled position nodes; lists = lists; taken = taken }

abbrev pub is_loose : NodeState → Bool
is_loose Loose = true
is_loose other = false

-- the first of the nodes, where it is listed
abbrev pub listed_first : List Node → Option Node
listed_first [] = None
listed_first (node ∷ nodes) = if is_listed_state node.state then Some node else None

-- the nodes without the first, where that one is listed
abbrev pub past : List Node → List Node
past [] = []
past (node ∷ nodes) = if is_listed_state node.state then nodes else node ∷ nodes

-- a node, where there is one, leaves its list
abbrev pub left_by : Option Node → List (List Node) → List (List Node)
left_by None lists = lists
left_by (Some node) lists = left node lists

-- a node in front, where there is one, is merged with the node, which is in use
abbrev pub merged_with_front : Option Node → Node → Node
merged_with_front None node = node
merged_with_front (Some front) node = record front { size = front.size + node.size; state = InUse }

-- the node, which is in use, is merged with one behind, where there is one
abbrev pub merged_with_behind : Option Node → Node → Node
merged_with_behind None node = node
merged_with_behind (Some behind) node = record node { size = node.size + behind.size; state = InUse }

-- the position without a listed node in front
abbrev pub position_past : Position → Position
position_past position = record position { before = past position.before }
