-- The first block of a class's list, as the cells have it: it may be taken for as many bytes as it has.
use Rattle.std.proofs.Common.{◌≡◌, ℕ, ◌<◌, ◌≤◌, List, [], ◌∷◌, map, refl, sym, ap, ◌∙◌, subst, arith, cond, Some, None}
use Rattle.std.specs.Prelude.{◌==◌}
use Rattle.std.proofs.lemmas.Bool.{eq-eqb, le-leb, lt-leb}
use Rattle.std.proofs.lemmas.List.{get_or-map}
use Rattle.tlsf_class.specs.Classes.{classes, class}
use Rattle.tlsf_store.specs.declared.records.State.TheVariants.{Free}
use Rattle.tlsf_store.specs.Records.{record_at}
use Rattle.tlsf_store.specs.Cells.{Cells, head_at}
use Rattle.tlsf_heap.specs.Content.{Content, blocks_of, size_at}
use Rattle.tlsf_heap.specs.Good.{times}
use Rattle.tlsf_heap.specs.Lists.{list_of}
use Rattle.tlsf_heap.specs.OwnClass.{first_if_holds, own_first}
use Rattle.tlsf_heap.specs.Inner.Nodes.{Node, Listed, nodes_in}
use Rattle.tlsf_heap.specs.Inner.Represents.{first_slot}
use Rattle.tlsf_heap.specs.Inner.Answers.{IsTakenFor}
use Rattle.tlsf_heap.specs.Inner.Following.{content_of, Stands}
use Rattle.tlsf_heap.proofs.Counts.{one_if, count-cons}
use Rattle.tlsf_heap.proofs.Images.FoundNodes.{listed_at}
use Rattle.tlsf_heap.proofs.Inner.Followed.{stood_for}
use Rattle.tlsf_heap.proofs.Inner.Live.{free_at, node_size}
use Rattle.tlsf_heap.proofs.Inner.Picked.{head_listed, first_says}
use Rattle.tlsf_heap.proofs.Inner.Steps.{size_read}

module _ (cells : Cells) (stands : Stands cells) (number : ℕ) (below : number < classes) where
  abbrev nodes : List Node
  nodes = nodes_in number stands.layout.lists

  -- the first of the class's list, by its nodes
  head_is : head_at cells.heads number ≡ first_slot nodes
  head_is = ap (λ heads. head_at heads number) stands.represented.index.heads_are ∙ get_or-map first_slot stands.layout.lists number [] None (omega (arith, below, stands.represented.index.lists_count))

  list_is : list_of number (content_of cells).lists ≡ map (λ (node : Node). node.place) nodes
  list_is = ap (λ (x : Content ℕ). list_of number x.lists) (stood_for cells stands) ∙ get_or-map (map (λ (node : Node). node.place)) stands.layout.lists number [] [] (omega (arith, below, stands.represented.index.lists_count))

  pub list_empty : head_at cells.heads number ≡ None → list_of number (content_of cells).lists ≡ []
  list_empty none = list_is ∙ go nodes (sym head_is ∙ none)
    where
      go : (ns : List Node) → first_slot ns ≡ None → map (λ (node : Node). node.place) ns ≡ []
      go [] e = refl
      go (node ∷ ns) e = absurd (cc)

  -- what is known of the first block of the list
  pub record IsFirst (slot : ℕ) : Type 0 where
    pub free : (record_at cells.records slot).state ≡ Free
    pub of_class : number ≡ class (record_at cells.records slot).size
    pub first : (record_at cells.records slot).prev_free ≡ None
    pub rest : List ℕ
    pub list : list_of number (content_of cells).lists ≡ (record_at cells.records slot).place ∷ rest
    pub size : size_at (record_at cells.records slot).place (blocks_of (content_of cells).pools) ≡ (record_at cells.records slot).size

  pub is_first : (slot : ℕ) → head_at cells.heads number ≡ Some slot → IsFirst slot
  is_first slot is = go nodes refl (sym head_is ∙ is)
    where
      go : (ns : List Node) → nodes ≡ ns → first_slot ns ≡ Some slot → IsFirst slot
      go [] e same = absurd (cc)
      go (node ∷ ns) e same =
          let at : node.slot ≡ slot = cc in
          let says = first_says cells stands number node ns e in
          let P : ℕ → Type 0 = λ q. IsFirst q in
          let listed = listed_at cells stands number node.slot (head_listed stands.layout.lists number node.slot (ap (λ heads. head_at heads number) (sym stands.represented.index.heads_are) ∙ is ∙ ap Some (sym at))) in
          let by = free_at cells stands node.slot says.0 in
          subst P at (record {
            free = says.0;
            of_class = sym listed.of_class;
            first = says.2;
            rest = map (λ (n : Node). n.place) ns;
            list = list_is ∙ ap (map (λ (n : Node). n.place)) e ∙ ap (λ p. p ∷ map (λ (n : Node). n.place) ns) (sym says.1);
            size = node_size cells stands (record_at cells.records node.slot).place node.slot Listed by ∙ sym (size_read cells node.slot Listed by.at by.stands);
          })

module _ (cells : Cells) (stands : Stands cells) (asked : ℕ) (below : class asked < classes) where
  pub own_none : head_at cells.heads (class asked) ≡ None → own_first asked (content_of cells) ≡ None
  own_none none = ap (first_if_holds asked (content_of cells)) (list_empty cells stands (class asked) below none)

  pub own_small : (slot : ℕ) → head_at cells.heads (class asked) ≡ Some slot → (record_at cells.records slot).size < asked → own_first asked (content_of cells) ≡ None
  own_small slot is small =
      let first = is_first cells stands (class asked) below slot is in
      ap (first_if_holds asked (content_of cells)) first.list
      ∙ ap (λ b. cond b (Some (record_at cells.records slot).place) None) (lt-leb asked (size_at (record_at cells.records slot).place (blocks_of (content_of cells).pools)) (omega (arith, small, first.size)))

  pub own_taken : (slot : ℕ) → head_at cells.heads (class asked) ≡ Some slot → asked ≤ (record_at cells.records slot).size → IsTakenFor asked (own_first asked (content_of cells)) (class asked) slot cells
  own_taken slot is large =
      let first = is_first cells stands (class asked) below slot is in
      let place : ℕ = (record_at cells.records slot).place in
      let holds : asked ≤ size_at place (blocks_of (content_of cells).pools) = omega (arith, large, first.size) in
      record {
        takeable = record {
          of_class = first.of_class;
          first = first.first;
          free = first.free;
          number = class asked;
          below = below;
          stands = omega (arith, ap (times place) first.list, count-cons (λ other. other == place) place first.rest, ap one_if (eq-eqb place place refl));
          holds = holds;
        };
        found = ap (first_if_holds asked (content_of cells)) first.list ∙ ap (λ b. cond b (Some place) None) (le-leb asked (size_at place (blocks_of (content_of cells).pools)) holds);
      }
