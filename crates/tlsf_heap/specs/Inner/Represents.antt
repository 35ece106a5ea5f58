-- When cells represent a layout. A record is read in two views. One is of its block and the
-- neighbours in its pool, the other of the neighbours in its list.
use Rattle.std.specs.Prelude.{◌≡◌, ℕ, ◌+◌, ◌&&◌, Bool, List, [], ◌∷◌, length, map, count_by, Option, Some, None, ⊤}
use Rattle.std.specs.List.{AllByRecursion}
use Rattle.tlsf_class.specs.Classes.{levels, classes}
use Rattle.tlsf_store.specs.declared.records.State.{State}
use Rattle.tlsf_store.specs.declared.records.State.TheVariants.{Vacant, Free, Live}
use Rattle.tlsf_store.specs.declared.records.Record.{Record}
use Rattle.tlsf_store.specs.declared.pools.Pool.{Pool as StoredPool}
use Rattle.tlsf_store.specs.Records.{record_at}
use Rattle.tlsf_store.specs.Cells.{Cells}
use Rattle.tlsf_heap.specs.Good.{times}
use Rattle.tlsf_heap.specs.Images.Bitmaps.{AreBitmapsOf}
use Rattle.tlsf_heap.specs.Inner.Entries.{padded}
use Rattle.tlsf_heap.specs.Inner.Nodes.{NodeState, InUse, Node, Area, Layout, nodes_of, nodes_in, has_slot, is_listed_in}

-- what a record says of its block, and of the blocks in front and behind in its pool
pub record InPool : Type 0 where
  pub place : ℕ
  pub size : ℕ
  pub state : State
  pub prev : Option ℕ
  pub next : Option ℕ

-- what it says of the blocks in front and behind in its list
pub record InList : Type 0 where
  pub prev : Option ℕ
  pub next : Option ℕ

abbrev pub pool_view : Record → InPool
pool_view r = record { place = r.place; size = r.size; state = r.state; prev = r.prev; next = r.next }

abbrev pub list_view : Record → InList
list_view r = record { prev = r.prev_free; next = r.next_free }

-- the views of all slots
abbrev pub pool_views : List Record → ℕ → InPool
pool_views records slot = pool_view (record_at records slot)

abbrev pub list_views : List Record → ℕ → InList
list_views records slot = list_view (record_at records slot)

-- the state of a node's record
abbrev pub record_state : NodeState → State
record_state InUse = Live
record_state other = Free

-- what a node's record is to say between these neighbours
abbrev pub in_pool : Option ℕ → Node → Option ℕ → InPool
in_pool prev node next = record { place = node.place; size = node.size; state = record_state node.state; prev = prev; next = next }

abbrev pub in_list : Option ℕ → Node → Option ℕ → InList
in_list prev node next = record { prev = prev; next = next }

-- the slot of the first node
abbrev pub first_slot : List Node → Option ℕ
first_slot [] = None
first_slot (node ∷ nodes) = Some node.slot

module _ {V : Type 0} (says : Option ℕ → Node → Option ℕ → V) (at : ℕ → V) where
  -- at each node's slot stands what `says` gives for it, between the slot in front of it and the one behind
  abbrev pub AreLinked : Option ℕ → List Node → Type 0
  AreLinked prev [] = ⊤
  AreLinked prev (node ∷ nodes) = (at node.slot ≡ says prev node (first_slot nodes)) × AreLinked (Some node.slot) nodes

-- an area begins with its entry's first slot, and its nodes are linked
pub record IsChain (at : ℕ → InPool) (area : Area) : Type 0 where
  pub begins : first_slot area.nodes ≡ Some area.entry.first
  pub linked : AreLinked in_pool at None area.nodes

-- how many nodes and taken slots a record in this state has
abbrev pub uses_in : State → ℕ
uses_in Vacant = 0
uses_in other = 1

-- each area is a chain, and each slot is of one node, or taken, exactly where its record isn't vacant
pub record AreChains (at : ℕ → InPool) (areas : List Area) (taken : List ℕ) : Type 0 where
  pub chains : AllByRecursion (IsChain at) areas
  pub once : (slot : ℕ) → count_by (has_slot slot) (nodes_of areas) + times slot taken ≡ uses_in (at slot).state

-- the heads are those of the lists, which are linked, and the bitmaps mark those that aren't empty
pub record IsIndex (at : ℕ → InList) (heads : List (Option ℕ)) (step_words : List ℕ) (level_word : ℕ) (lists : List (List Node)) : Type 0 where
  pub heads_are : heads ≡ map first_slot lists
  pub lists_count : length lists ≡ classes
  pub words_count : length step_words ≡ levels
  pub linked : (number : ℕ) → AreLinked in_list at None (nodes_in number lists)
  pub bitmaps : AreBitmapsOf heads step_words level_word

-- each class's list has the nodes of the areas that are to stand in it, each as often, and no others
abbrev pub Agree : List Area → List (List Node) → Type 0
Agree areas lists = (number : ℕ) (test : Node → Bool) → count_by test (nodes_in number lists) ≡ count_by (λ node. is_listed_in number node && test node) (nodes_of areas)

-- the parts of a store's cells represent the layout
pub record Represented (records : List Record) (heads : List (Option ℕ)) (level_word : ℕ) (step_words : List ℕ) (pools : List (Option StoredPool)) (layout : Layout) : Type 0 where
  pub count : length records ≡ layout.count
  pub entries : pools ≡ padded (map (λ area. area.entry) layout.areas)
  pub chains : AreChains (pool_views records) layout.areas layout.taken
  pub index : IsIndex (list_views records) heads step_words level_word layout.lists
  pub agree : Agree layout.areas layout.lists

abbrev pub Represents : Cells → Layout → Type 0
Represents cells layout = Represented cells.records cells.heads cells.level_word cells.step_words cells.pools layout
