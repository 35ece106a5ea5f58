-- Linked nodes: in parts, and after an edit of what is read at their slots.
use Rattle.std.proofs.Common.{◌≡◌, ◌≢◌, ℕ, ◌≤◌, List, [], ◌∷◌, refl, sym, ap, ◌∙◌, arith, count_by, Option, Some, None}
use Rattle.std.proofs.lemmas.Bool.{eq-eqb}
use Rattle.tlsf_heap.specs.Inner.Nodes.{Node, has_slot}
use Rattle.tlsf_heap.specs.Inner.Positions.{plug}
use Rattle.tlsf_heap.specs.Inner.Represents.{first_slot, AreLinked}
use Rattle.tlsf_heap.proofs.Counts.{one_if, count-cons}

pub Some≢None : (q : ℕ) → Some q ≢ None
Some≢None q = λ e. absurd (cc)

pub Some-same : (a b : ℕ) → Some a ≡ Some b → a ≡ b
Some-same a b e = cc

-- a node's slot stands among the slots
pub count-front : (node : Node) (nodes : List Node) → 1 ≤ count_by (has_slot node.slot) (node ∷ nodes)
count-front node nodes = omega (arith, count-cons (has_slot node.slot) node nodes, ap one_if (eq-eqb node.slot node.slot refl))

pub count-behind : (q : ℕ) (node : Node) (nodes : List Node) → 1 ≤ count_by (has_slot q) nodes → 1 ≤ count_by (has_slot q) (node ∷ nodes)
count-behind q node nodes h = omega (arith, count-cons (has_slot q) node nodes, h)

-- the first slot stands among them
pub first_stands : (nodes : List Node) (q : ℕ) → first_slot nodes ≡ Some q → 1 ≤ count_by (has_slot q) nodes
first_stands [] q is = absurd (Some≢None q (sym is))
first_stands (node ∷ nodes) q is = omega (arith, count-cons (has_slot q) node nodes, ap one_if (eq-eqb node.slot q (Some-same node.slot q is)))

pub first-plug : (front xs ys : List Node) → first_slot xs ≡ first_slot ys → first_slot (plug front xs) ≡ first_slot (plug front ys)
first-plug [] xs ys same = same
first-plug (f ∷ front) xs ys same = first-plug front (f ∷ xs) (f ∷ ys) refl

module _ {V : Type 0} (says : Option ℕ → Node → Option ℕ → V) where
  -- what is said, seen from behind
  abbrev pub from_behind : Option ℕ → Node → Option ℕ → V
  from_behind next node prev = says prev node next

  pub linked_same : (at new : ℕ → V) (before : Option ℕ) (nodes : List Node) → ((q : ℕ) → 1 ≤ count_by (has_slot q) nodes → new q ≡ at q) → AreLinked says at before nodes → AreLinked says new before nodes
  linked_same at new before [] same l = tt
  linked_same at new before (node ∷ nodes) same l =
      (same node.slot (count-front node nodes) ∙ l.0, linked_same at new (Some node.slot) nodes (λ q h. same q (count-behind q node nodes h)) l.1)

  module _ (at : ℕ → V) where
    -- the nodes in front are linked, seen from behind, and those behind
    pub linked_parts : (front behind : List Node) → AreLinked says at None (plug front behind) → AreLinked from_behind at (first_slot behind) front × AreLinked says at (first_slot front) behind
    linked_parts [] behind l = (tt, l)
    linked_parts (f ∷ front) behind l = let parts = linked_parts front (f ∷ behind) l in ((parts.1.0, parts.0), parts.1.1)

    pub linked_plugged : (front behind : List Node) → AreLinked from_behind at (first_slot behind) front → AreLinked says at (first_slot front) behind → AreLinked says at None (plug front behind)
    linked_plugged [] behind before l = l
    linked_plugged (f ∷ front) behind before l = linked_plugged front (f ∷ behind) before.1 (before.0, l)

  -- the first of the nodes has something else in front of it
  pub linked_moved : (at new : ℕ → V) (edit : V → V) (before after : Option ℕ) → ((node : Node) (next : Option ℕ) → edit (says before node next) ≡ says after node next)
      → (nodes : List Node) → ((q : ℕ) → count_by (has_slot q) nodes ≤ 1) → ((q : ℕ) → first_slot nodes ≡ Some q → new q ≡ edit (at q)) → ((q : ℕ) → first_slot nodes ≢ Some q → 1 ≤ count_by (has_slot q) nodes → new q ≡ at q)
      → AreLinked says at before nodes → AreLinked says new after nodes
  linked_moved at new edit before after moves [] once first others l = tt
  linked_moved at new edit before after moves (node ∷ nodes) once first others l = (
    first node.slot refl ∙ ap edit l.0 ∙ moves node (first_slot nodes),
    linked_same at new (Some node.slot) nodes (λ q h.
        others q (λ e. omega (arith, once q, h, count-cons (has_slot q) node nodes, ap one_if (eq-eqb node.slot q (Some-same node.slot q e)))) (count-behind q node nodes h)) l.1,
  )
