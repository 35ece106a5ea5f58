-- The first block of the lists is the one that is picked: its node, its record and its place.
use Rattle.std.proofs.Common.{◌≡◌, ◌≢◌, ℕ, zero, suc, ◌+◌, ◌≤◌, not, eqb, List, [], ◌∷◌, map, drop, refl, sym, ap, ◌∙◌, subst, arith, count_by, Option, Some, None, option_map, inl, inr}
use Rattle.std.specs.Prelude.{IfSome, IfNone, MatchOption, option_and_then}
use Rattle.std.proofs.lemmas.Bool.{cases_Bool, eqb-true}
use Rattle.std.proofs.lemmas.List.{drop-map, get_or-drop}
use Rattle.tlsf_class.specs.Classes.{need}
use Rattle.tlsf_store.specs.declared.records.State.TheVariants.{Free}
use Rattle.tlsf_store.specs.Records.{record_at}
use Rattle.tlsf_store.specs.Cells.{Cells, head_at}
use Rattle.tlsf_heap.specs.Content.{Content}
use Rattle.tlsf_heap.specs.Lists.{first_of_lists, pick}
use Rattle.tlsf_heap.specs.Images.Bitmaps.{first_head}
use Rattle.tlsf_heap.specs.Inner.Nodes.{Node, nodes_in, has_slot}
use Rattle.tlsf_heap.specs.Inner.Represents.{first_slot, list_views, in_list, AreLinked}
use Rattle.tlsf_heap.specs.Inner.Answers.{IsPickOf}
use Rattle.tlsf_heap.specs.Inner.Following.{content_of, Stands}
use Rattle.tlsf_heap.proofs.Counts.{one_if, count-cons}
use Rattle.tlsf_heap.proofs.Inner.Links.{first_stands}
use Rattle.tlsf_heap.proofs.Images.FoundNodes.{listed_at}
use Rattle.tlsf_heap.proofs.Inner.Followed.{strays, list_strays, stood_for}
use Rattle.tlsf_heap.proofs.Meaning.Places.{by_places}

-- the first node of the first list that isn't empty
abbrev first_node : List (List Node) → Option Node
first_node [] = None
first_node ([] ∷ lists) = first_node lists
first_node ((node ∷ nodes) ∷ lists) = Some node

heads_first : (lists : List (List Node)) → first_head (map first_slot lists) ≡ option_map (λ node. node.slot) (first_node lists)
heads_first [] = refl
heads_first ([] ∷ lists) = heads_first lists
heads_first ((node ∷ nodes) ∷ lists) = refl

places_first : (lists : List (List Node)) → first_of_lists (by_places lists) ≡ option_map (λ node. node.place) (first_node lists)
places_first [] = refl
places_first ([] ∷ lists) = places_first lists
places_first ((node ∷ nodes) ∷ lists) = refl

first_in : (lists : List (List Node)) (node : Node) → first_node lists ≡ Some node → (number : ℕ) × (nodes : List Node) × (nodes_in number lists ≡ node ∷ nodes)
first_in [] node is = absurd (cc)
first_in ([] ∷ lists) node is = let later = first_in lists node is in (suc later.0, later.1, later.2)
first_in ((other ∷ nodes) ∷ lists) node is = (zero, nodes, ap (λ n. n ∷ nodes) (same other node is))
  where
    same : (x y : Node) → Some x ≡ Some y → x ≡ y
    same x y e = cc

-- the first of a class's list is in it
pub head_listed : (lists : List (List Node)) (number slot : ℕ) → head_at (map first_slot lists) number ≡ Some slot → 1 ≤ count_by (has_slot slot) (nodes_in number lists)
head_listed [] number slot is = absurd (cc)
head_listed (nodes ∷ lists) zero slot is = first_stands nodes slot is
head_listed (nodes ∷ lists) (suc number) slot is = head_listed lists number slot is

module _ (cells : Cells) (stands : Stands cells) where
  -- what the record of the first node of a list says
  pub first_says : (number : ℕ) (node : Node) (nodes : List Node) → nodes_in number stands.layout.lists ≡ node ∷ nodes → ((record_at cells.records node.slot).state ≡ Free) × ((record_at cells.records node.slot).place ≡ node.place) × ((record_at cells.records node.slot).prev_free ≡ None)
  first_says number node nodes is =
      let stray = ap (count_by (strays cells.records)) (sym is) ∙ list_strays cells stands.layout stands.represented number in
      let listed = listed_at cells stands number node.slot (omega (arith, ap (count_by (has_slot node.slot)) is, first_stands (node ∷ nodes) node.slot refl)) in (
        listed.free,
        elim (cases_Bool (eqb (record_at cells.records node.slot).place node.place)) [
          | inl same ↦ eqb-true (record_at cells.records node.slot).place node.place same
          | inr apart ↦ absurd (omega (arith, stray, count-cons (strays cells.records) node nodes, ap (λ b. one_if (not b)) apart))
        ],
        (let P : List Node → Type 0 = λ ns. AreLinked in_list (list_views cells.records) None ns in
            ap (λ v. v.prev) (subst P is (stands.represented.index.linked number)).0),
      )

  -- what search tells
  pub record Tells (asked : ℕ) (first : Option ℕ) : Type 0 where
    pub free : IfSome first (λ slot. (record_at cells.records slot).state ≡ Free)
    pub leads : IfSome first (λ slot. (record_at cells.records slot).prev_free ≡ None)
    pub found : IfSome first (λ slot. pick asked (content_of cells).lists ≡ Some (record_at cells.records slot).place)
    pub none : IfNone first (pick asked (content_of cells).lists ≡ None)

  pub search_tells : (asked number : ℕ) → need asked ≡ Some number → (first : Option ℕ) → first ≡ first_head (drop number cells.heads) → Tells asked first
  search_tells asked number need_is first first_is =
      let lists : List (List Node) = stands.layout.lists in
      let slot_is : first ≡ option_map (λ node. node.slot) (first_node (drop number lists)) =
      first_is ∙ ap (λ heads. first_head (drop number heads)) stands.represented.index.heads_are ∙ ap first_head (drop-map first_slot number lists) ∙ heads_first (drop number lists) in
      let place_is : pick asked (content_of cells).lists ≡ option_map (λ node. node.place) (first_node (drop number lists)) =
      ap (λ (x : Content ℕ). pick asked x.lists) (stood_for cells stands)
      ∙ ap (option_and_then (λ n. first_of_lists (drop n (by_places lists)))) need_is
      ∙ ap first_of_lists (drop-map (map (λ node. node.place)) number lists) ∙ places_first (drop number lists) in
      go (first_node (drop number lists)) refl slot_is place_is
    where
      go : (node : Option Node) → first_node (drop number stands.layout.lists) ≡ node → first ≡ option_map (λ n. n.slot) node → pick asked (content_of cells).lists ≡ option_map (λ n. n.place) node → Tells asked first
      go None is slot_is place_is = let P : Option ℕ → Type 0 = λ o. Tells asked o in subst P (sym slot_is) (record { free = tt; leads = tt; found = tt; none = place_is })
      go (Some node) is slot_is place_is =
          let at = first_in (drop number stands.layout.lists) node is in
          let says = first_says (number + at.0) node at.1 (sym (get_or-drop number stands.layout.lists at.0 []) ∙ at.2) in
          let P : Option ℕ → Type 0 = λ o. Tells asked o in
          subst P (sym slot_is) (record { free = says.0; leads = says.2; found = place_is ∙ ap Some (sym says.1); none = tt })

  -- the same, where search answers the class
  pub search_finds : (asked number : ℕ) → need asked ≡ Some number → (found : Option ℕ) → option_and_then (λ class. head_at cells.heads class) found ≡ first_head (drop number cells.heads) → IfSome found (λ class. head_at cells.heads class ≢ None)
      → MatchOption found (pick asked (content_of cells).lists ≡ None) (λ class. IsPickOf asked class cells)
  search_finds asked number need_is None is listed = (search_tells asked number need_is None is).none
  search_finds asked number need_is (Some class) is some = go (head_at cells.heads class) refl
    where
      go : (first : Option ℕ) → head_at cells.heads class ≡ first → IsPickOf asked class cells
      go None none = absurd (some none)
      go (Some slot) head =
          let tells = search_tells asked number need_is (Some slot) (sym head ∙ is) in
          let listed = listed_at cells stands class slot (head_listed stands.layout.lists class slot (ap (λ heads. head_at heads class) (sym stands.represented.index.heads_are) ∙ head)) in
          (slot, head, record { of_class = sym listed.of_class; first = tells.leads; free = tells.free; found = tells.found })
