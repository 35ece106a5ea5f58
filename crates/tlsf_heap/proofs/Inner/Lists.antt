-- The classes' lists after a node entered or left its own.
use Rattle.std.proofs.Common.{◌≡◌, ◌≢◌, ℕ, ◌+◌, ◌<◌, ◌≤◌, Bool, true, false, not, ◌&&◌, eqb, List, [], ◌∷◌, length, map, set, get_or, refl, sym, ap, ◌∙◌, subst, arith, count_by, None, inl, inr}
use Rattle.std.proofs.lemmas.Bool.{cases_eq, eq-eqb, ne_eqb, eqb-true, false≢true}
use Rattle.std.proofs.lemmas.List.{get_or-set_same, get_or-set_other, length-set, map-set, get_or-map}
use Rattle.tlsf_class.specs.Classes.{classes, class}
use Rattle.tlsf_class.proofs.ClassLaws.{class-lt}
use Rattle.tlsf_heap.specs.Inner.Nodes.{Node, Area, nodes_of, nodes_in, has_slot, is_listed_state, is_listed_in, without_slot, left, entered}
use Rattle.tlsf_heap.specs.Inner.Represents.{first_slot, Agree}
use Rattle.tlsf_heap.proofs.Counts.{one_if, count-cons, count-filter, count_apart}

-- a slot stands in one list at most
pub lists_apart : (areas : List Area) (lists : List (List Node)) (number other q : ℕ) → Agree areas lists → number ≢ other
    → count_by (has_slot q) (nodes_in number lists) + count_by (has_slot q) (nodes_in other lists) ≤ count_by (has_slot q) (nodes_of areas)
lists_apart areas lists number other q agree apart =
    let in_one : Node → Bool = λ node. is_listed_in number node && has_slot q node in
    let in_other : Node → Bool = λ node. is_listed_in other node && has_slot q node in
    omega (
      arith,
      agree number (has_slot q),
      agree other (has_slot q),
      count_apart in_one in_other (has_slot q) (λ node. both (is_listed_state node.state) (eqb (class node.size) number) (eqb (class node.size) other) (has_slot q node)
          (λ e. ne_eqb (class node.size) other (λ f. apart (sym (eqb-true (class node.size) number e) ∙ f)))) (nodes_of areas),
    )
  where
    both : (listed of_one of_other here : Bool) → (of_one ≡ true → of_other ≡ false) → one_if ((listed && of_one) && here) + one_if ((listed && of_other) && here) ≤ one_if here
    both false of_one of_other here differ = omega arith
    both true false false here differ = omega arith
    both true false true here differ = omega arith
    both true true false here differ = omega arith
    both true true true here differ = absurd (false≢true (sym (differ refl)))

module _ (node : Node) (lists : List (List Node)) (full : length lists ≡ classes) where
  abbrev number : ℕ
  number = class node.size

  within : class node.size < length lists
  within = omega (arith, class-lt node.size, full)

  module _ (nodes : List Node) where
    abbrev written : List (List Node)
    written = set lists (class node.size) nodes

    pub written_same : nodes_in (class node.size) written ≡ nodes
    written_same = get_or-set_same lists (class node.size) nodes [] within

    pub written_other : (other : ℕ) → other ≢ class node.size → nodes_in other written ≡ nodes_in other lists
    written_other other apart = get_or-set_other lists (class node.size) other nodes [] apart

    -- what holds of the list written and of the others holds of each
    pub each_written : (P : List Node → Type 0) → P nodes → ((other : ℕ) → other ≢ class node.size → P (nodes_in other lists)) → (other : ℕ) → P (nodes_in other written)
    each_written P here others other = elim (cases_eq other (class node.size)) [
      | inl same ↦ let Q : ℕ → Type 0 = λ n. P (nodes_in n written) in subst Q (sym same) (subst P (sym written_same) here)
      | inr apart ↦ subst P (sym (written_other other apart)) (others other apart)
    ]

    pub heads-written : map first_slot written ≡ set (map first_slot lists) (class node.size) (first_slot nodes)
    heads-written = map-set first_slot lists (class node.size) nodes

  pub head_of : get_or (map first_slot lists) (class node.size) None ≡ first_slot (nodes_in (class node.size) lists)
  head_of = get_or-map first_slot lists (class node.size) [] None within

  -- the node that entered is one more of its class
  pub count-entered : (other : ℕ) (test : Node → Bool) → count_by test (nodes_in other (entered node lists)) ≡ one_if (eqb (class node.size) other && test node) + count_by test (nodes_in other lists)
  unfolding entered
  count-entered other test = elim (cases_eq other (class node.size)) [
    | inl same ↦
        let P : ℕ → Type 0 = λ n. count_by test (nodes_in n (entered node lists)) ≡ one_if (eqb (class node.size) n && test node) + count_by test (nodes_in n lists) in
        subst P (sym same) (ap (count_by test) (written_same (node ∷ nodes_in (class node.size) lists)) ∙ count-cons test node (nodes_in (class node.size) lists)
        ∙ ap (λ b. one_if (b && test node) + count_by test (nodes_in (class node.size) lists)) (sym (eq-eqb (class node.size) (class node.size) refl)))
    | inr apart ↦
        omega (arith, ap (count_by test) (written_other (node ∷ nodes_in (class node.size) lists) other apart), ap (λ b. one_if (b && test node)) (ne_eqb (class node.size) other (λ e. apart (sym e))))
  ]

  -- the node that left counts no more
  pub count-left_same : (test : Node → Bool) → count_by test (nodes_in (class node.size) (left node lists)) ≡ count_by (λ other. not (has_slot node.slot other) && test other) (nodes_in (class node.size) lists)
  unfolding left
  count-left_same test =
      ap (count_by test) (written_same (without_slot node.slot (nodes_in (class node.size) lists))) ∙ count-filter test (λ other. not (has_slot node.slot other)) (nodes_in (class node.size) lists)

  pub count-left_other : (other : ℕ) (test : Node → Bool) → other ≢ class node.size → count_by test (nodes_in other (left node lists)) ≡ count_by test (nodes_in other lists)
  unfolding left
  count-left_other other test apart = ap (count_by test) (written_other (without_slot node.slot (nodes_in (class node.size) lists)) other apart)

  pub length-left : length (left node lists) ≡ classes
  unfolding left
  length-left = length-set lists (class node.size) _ ∙ full

  pub length-entered : length (entered node lists) ≡ classes
  unfolding entered
  length-entered = length-set lists (class node.size) _ ∙ full
