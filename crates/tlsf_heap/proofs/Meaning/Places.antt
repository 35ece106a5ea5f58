-- Each place is that of one node; a class's list by places, after a node entered or left it.
use Rattle.std.proofs.Common.{◌≡◌, ℕ, ◌+◌, ◌≤◌, Bool, true, false, not, List, [], ◌∷◌, ◌++◌, length, map, set, refl, sym, ap, ◌∙◌, subst, arith, count_by, inl, inr}
use Rattle.std.proofs.lemmas.Bool.{cases_Bool, cases_eq, eq-eqb}
use Rattle.std.proofs.lemmas.List.{map-set, get_or-map, map-append}
use Rattle.tlsf_class.specs.Classes.{classes, class}
use Rattle.tlsf_class.proofs.ClassLaws.{class-lt}
use Rattle.tlsf_heap.specs.Content.{Block, blocks_of, is_at}
use Rattle.tlsf_heap.specs.Lists.{list_of, without, link, unlink}
use Rattle.tlsf_heap.specs.Good.{IsGood}
use Rattle.tlsf_heap.specs.Inner.Nodes.{Node, Area, Layout, block_of, pool_of, content_by, nodes_of, has_slot, has_place, nodes_in, is_listed_in, without_slot, left, entered}
use Rattle.tlsf_heap.specs.Inner.Positions.{plug, Position, filled}
use Rattle.tlsf_heap.specs.Inner.Represents.{Agree}
use Rattle.tlsf_heap.proofs.Content.Blocks.{Ascends-pools}
use Rattle.tlsf_heap.proofs.Meaning.BlockPositions.{BlockPosition, filled_pools, at_most_one, IsAlone, block_alone}
use Rattle.tlsf_heap.proofs.Counts.{one_if, count-cons, count_either, count_and, count-map}
use Rattle.tlsf_heap.proofs.Inner.Plugs.{count-filled, map-plug}
use Rattle.tlsf_heap.proofs.Inner.Lists.{count-left_same, count-left_other}

-- no two nodes begin at one place, or have one slot
abbrev pub PlacesOnce : List Area → Type 0
PlacesOnce areas = (place : ℕ) → count_by (has_place place) (nodes_of areas) ≤ 1

abbrev pub SlotsOnce : List Area → Type 0
SlotsOnce areas = (slot : ℕ) → count_by (has_slot slot) (nodes_of areas) ≤ 1

pub blocks_of_areas : (areas : List Area) → blocks_of (map pool_of areas) ≡ map block_of (nodes_of areas)
blocks_of_areas [] = refl
blocks_of_areas (area ∷ areas) = ap (λ blocks. map block_of area.nodes ++ blocks) (blocks_of_areas areas) ∙ sym (map-append block_of area.nodes (nodes_of areas))

-- of a good content each place is that of one node
pub places_once : (layout : Layout) → IsGood (content_by layout) → PlacesOnce layout.areas
places_once layout good place =
    let blocks : List (Block ℕ) = blocks_of (map pool_of layout.areas) in
    omega (arith, at_most_one 0 blocks (Ascends-pools 0 (map pool_of layout.areas) good.pools_good) place, ap (count_by (is_at place)) (blocks_of_areas layout.areas), count-map (is_at place) block_of (nodes_of layout.areas))

-- the lists agree with areas of which each place and each slot is that of one node
pub record AgreeOnce (areas : List Area) (lists : List (List Node)) : Type 0 where
  pub full : length lists ≡ classes
  pub agree : Agree areas lists
  pub slots : SlotsOnce areas
  pub places : PlacesOnce areas

-- the same position among blocks
abbrev pub block_position : Position → BlockPosition ℕ
block_position position = record { pools_before = map pool_of position.areas_before; base = position.entry.base; bytes = position.entry.bytes; before = map block_of position.before; pools_behind = map pool_of position.areas_behind }

pub pools_are : (position : Position) (nodes : List Node) → map pool_of (filled position nodes) ≡ filled_pools (block_position position) (map block_of nodes)
pools_are position nodes =
    map-plug pool_of position.areas_before (record { entry = position.entry; nodes = plug position.before nodes } ∷ position.areas_behind)
    ∙ ap (λ blocks. plug (map pool_of position.areas_before) (record { base = position.entry.base; bytes = position.entry.bytes; blocks = blocks } ∷ map pool_of position.areas_behind)) (map-plug block_of position.before nodes)

-- the block of a node at a position begins where no other does
pub alone : (position : Position) (node : Node) (nodes : List Node) → PlacesOnce (filled position (node ∷ nodes)) → IsAlone (block_position position) (block_of node) (map block_of nodes)
alone position node nodes once =
    block_alone (block_position position) (block_of node) (map block_of nodes)
    (λ place. omega (
      arith,
      once place,
      ap (λ pools. count_by (is_at place) (blocks_of pools)) (pools_are position (node ∷ nodes)),
      ap (count_by (is_at place)) (blocks_of_areas (filled position (node ∷ nodes))),
      count-map (is_at place) block_of (nodes_of (filled position (node ∷ nodes))),
    ))

-- whether the two tests differ
abbrev pub differ : Bool → Bool → Bool
differ true b = not b
differ false b = b

differ_most : (a b : Bool) → one_if (differ a b) ≤ one_if a + one_if b
differ_most true true = omega arith
differ_most true false = omega arith
differ_most false b = omega arith

-- the places of a list without a node's, where slots and places tell the same
places-without : (slot place : ℕ) (nodes : List Node) → count_by (λ node. differ (has_slot slot node) (has_place place node)) nodes ≡ 0 → map (λ node. node.place) (without_slot slot nodes) ≡ without place (map (λ node. node.place) nodes)
places-without slot place [] same = refl
places-without slot place (node ∷ nodes) same =
    let test : Node → Bool = λ other. differ (has_slot slot other) (has_place place other) in
    let rest = places-without slot place nodes (omega (arith, same, count-cons test node nodes)) in
    elim (cases_Bool (has_slot slot node)) [
      | inl slot_here ↦ elim (cases_Bool (has_place place node)) [
        | inl place_here ↦ rw (slot_here, place_here) rest
        | inr place_apart ↦ absurd (let one : one_if (test node) ≡ 1 = rw (slot_here, place_apart) refl in omega (arith, same, count-cons test node nodes, one))
      ]
      | inr slot_apart ↦ elim (cases_Bool (has_place place node)) [
        | inl place_here ↦ absurd (let one : one_if (test node) ≡ 1 = rw (slot_apart, place_here) refl in omega (arith, same, count-cons test node nodes, one))
        | inr place_apart ↦ rw (slot_apart, place_apart) (ap (λ places. node.place ∷ places) rest)
      ]
    ]

-- the lists by places
abbrev pub by_places : List (List Node) → List (List ℕ)
by_places lists = map (map (λ node. node.place)) lists

-- in the list of the node's class, its slot and its place tell the same
pub record Alike (node : Node) (lists : List (List Node)) : Type 0 where
  pub none : count_by (λ other. differ (has_slot node.slot other) (has_place node.place other)) (nodes_in (class node.size) lists) ≡ 0

pub alike : (node : Node) (lists : List (List Node)) (position : Position) (at : Node) (nodes : List Node) → at.slot ≡ node.slot → at.place ≡ node.place → AgreeOnce (filled position (at ∷ nodes)) lists → Alike node lists
alike node lists position at nodes same_slot same_place agreed =
    let test : Node → Bool = λ other. differ (has_slot node.slot other) (has_place node.place other) in
    let either : (others : List Node) → count_by test others ≤ count_by (has_slot node.slot) others + count_by (has_place node.place) others =
    count_either test (has_slot node.slot) (has_place node.place) (λ other. differ_most (has_slot node.slot other) (has_place node.place other)) in
    let here : one_if (test at) ≡ 0 = rw (eq-eqb at.slot node.slot same_slot, eq-eqb at.place node.place same_place) refl in
    record {
      none = omega (
        arith,
        agreed.agree (class node.size) test,
        count_and (is_listed_in (class node.size)) test (nodes_of (filled position (at ∷ nodes))),
        count-filled test position (at ∷ nodes),
        count-cons test at nodes,
        here,
        agreed.slots node.slot,
        count-filled (has_slot node.slot) position (at ∷ nodes),
        count-cons (has_slot node.slot) at nodes,
        ap one_if (eq-eqb at.slot node.slot same_slot),
        agreed.places node.place,
        count-filled (has_place node.place) position (at ∷ nodes),
        count-cons (has_place node.place) at nodes,
        ap one_if (eq-eqb at.place node.place same_place),
        either (nodes_of position.areas_before),
        either position.before,
        either (nodes_of position.areas_behind),
        either nodes,
      );
    }

-- the same where another node left
pub alike-left : (node other : Node) (lists : List (List Node)) → length lists ≡ classes → Alike node lists → Alike node (left other lists)
alike-left node other lists full same =
    let test : Node → Bool = λ x. differ (has_slot node.slot x) (has_place node.place x) in
    record {
      none = elim (cases_eq (class node.size) (class other.size)) [
        | inl together ↦
            let P : ℕ → Type 0 = λ n. count_by test (nodes_in n lists) ≡ 0 → count_by test (nodes_in n (left other lists)) ≡ 0 in
            subst P (sym together) (λ none. omega (arith, none, count-left_same other lists full test, count_and (λ x. not (has_slot other.slot x)) test (nodes_in (class other.size) lists))) same.none
        | inr apart ↦ count-left_other other lists full (class node.size) test apart ∙ same.none
      ];
    }

module _ (node : Node) (lists : List (List Node)) (full : length lists ≡ classes) where
  place_list : list_of (class node.size) (by_places lists) ≡ map (λ other. other.place) (nodes_in (class node.size) lists)
  place_list = get_or-map (map (λ other. other.place)) lists (class node.size) [] [] (omega (arith, full, class-lt node.size))

  pub places-entered : by_places (entered node lists) ≡ link node.place node.size (by_places lists)
  unfolding entered
  places-entered =
      map-set (map (λ other. other.place)) lists (class node.size) (node ∷ nodes_in (class node.size) lists)
      ∙ ap (λ places. set (by_places lists) (class node.size) (node.place ∷ places)) (sym place_list)

  pub places-left : Alike node lists → by_places (left node lists) ≡ unlink node.place node.size (by_places lists)
  unfolding left
  places-left same =
      map-set (map (λ other. other.place)) lists (class node.size) (without_slot node.slot (nodes_in (class node.size) lists))
      ∙ ap (set (by_places lists) (class node.size)) (places-without node.slot node.place (nodes_in (class node.size) lists) same.none ∙ sym (ap (without node.place) place_list))
