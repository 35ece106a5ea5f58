-- What holds of a list with items in front, nearest first, holds of its parts; how many nodes a filled position has.
use Rattle.std.proofs.Common.{◌≡◌, ℕ, ◌+◌, Bool, List, [], ◌∷◌, map, refl, arith, count_by}
use Rattle.std.specs.List.{AllByRecursion}
use Rattle.tlsf_heap.specs.Inner.Nodes.{Node, Area, nodes_of}
use Rattle.tlsf_heap.specs.Inner.Positions.{plug, Position, filled}
use Rattle.tlsf_heap.proofs.Counts.{count-append, count-plug}

pub map-plug : {A B : Type 0} (f : A → B) (front behind : List A) → map f (plug front behind) ≡ plug (map f front) (map f behind)
map-plug f [] behind = refl
map-plug f (x ∷ front) behind = map-plug f front (x ∷ behind)

module _ {A : Type 0} (P : A → Type 0) where
  pub all_parts : (front behind : List A) → AllByRecursion P (plug front behind) → AllByRecursion P front × AllByRecursion P behind
  all_parts [] behind all = (tt, all)
  all_parts (x ∷ front) behind all = let parts = all_parts front (x ∷ behind) all in ((parts.1.0, parts.0), parts.1.1)

  pub all_plugged : (front behind : List A) → AllByRecursion P front → AllByRecursion P behind → AllByRecursion P (plug front behind)
  all_plugged [] behind before all = all
  all_plugged (x ∷ front) behind before all = all_plugged front (x ∷ behind) before.1 (before.0, all)

pub count-nodes : (p : Node → Bool) (area : Area) (areas : List Area) → count_by p (nodes_of (area ∷ areas)) ≡ count_by p area.nodes + count_by p (nodes_of areas)
count-nodes p area areas = count-append p area.nodes (nodes_of areas)

pub count-nodes-plug : (p : Node → Bool) (front behind : List Area) → count_by p (nodes_of (plug front behind)) ≡ count_by p (nodes_of front) + count_by p (nodes_of behind)
count-nodes-plug p [] behind = omega arith
count-nodes-plug p (area ∷ front) behind = omega (arith, count-nodes-plug p front (area ∷ behind), count-nodes p area behind, count-nodes p area front)

-- how many nodes beside those that fill the position pass the test
abbrev pub around : (Node → Bool) → Position → ℕ
around p position = count_by p (nodes_of position.areas_before) + count_by p position.before + count_by p (nodes_of position.areas_behind)

pub count-filled : (p : Node → Bool) (position : Position) (nodes : List Node) → count_by p (nodes_of (filled position nodes)) ≡ around p position + count_by p nodes
count-filled p position nodes =
    let area : Area = record { entry = position.entry; nodes = plug position.before nodes } in
    omega (arith, count-nodes-plug p position.areas_before (area ∷ position.areas_behind), count-nodes p area position.areas_behind, count-plug p position.before nodes)
