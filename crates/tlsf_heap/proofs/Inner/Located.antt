-- A node of the areas at a position.
use Rattle.std.proofs.Common.{◌≡◌, ◌≤◌, Bool, true, List, [], ◌∷◌, ap, arith, count_by, inl, inr}
use Rattle.std.proofs.lemmas.Bool.{cases_lt}
use Rattle.tlsf_heap.specs.Inner.Nodes.{Node, Area, nodes_of}
use Rattle.tlsf_heap.specs.Inner.Positions.{plug, Position, filled}
use Rattle.tlsf_heap.proofs.Counts.{FirstPassing, first_passing}
use Rattle.tlsf_heap.proofs.Inner.Plugs.{count-nodes}

-- the first node that passes the test, at its position
pub record Located (test : Node → Bool) (areas : List Area) : Type 0 where
  pub position : Position
  pub node : Node
  pub nodes : List Node
  pub whole : areas ≡ filled position (node ∷ nodes)
  pub passes : test node ≡ true

located_behind : (test : Node → Bool) (front areas : List Area) → 1 ≤ count_by test (nodes_of areas) → Located test (plug front areas)
located_behind test front [] some = absurd (omega (arith, some))
located_behind test front (area ∷ areas) some = elim (cases_lt 0 (count_by test area.nodes)) [
  | inl here ↦
      let at : FirstPassing test area.nodes = first_passing test area.nodes (omega (arith, here)) in
      record {
        position = record { areas_before = front; entry = area.entry; before = at.front; areas_behind = areas };
        node = at.item;
        nodes = at.behind;
        whole = ap (λ nodes. plug front (record { entry = area.entry; nodes = nodes } ∷ areas)) at.whole;
        passes = at.passes;
      }
  | inr later ↦ located_behind test (area ∷ front) areas (omega (arith, some, later, count-nodes test area areas))
]

pub located : (test : Node → Bool) (areas : List Area) → 1 ≤ count_by test (nodes_of areas) → Located test areas
located test areas some = located_behind test [] areas some
