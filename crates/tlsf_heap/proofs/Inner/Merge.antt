-- A block is merged with the one behind it, neither of them in a list. It is in use then.
use Rattle.std.proofs.Common.{◌≡◌, ◌≢◌, ℕ, ◌+◌, ◌≤◌, Bool, false, ◌&&◌, eqb, List, ◌∷◌, length, set, refl, sym, ap, ◌∙◌, subst, arith, count_by, Some, inl, inr}
use Rattle.std.proofs.lemmas.Bool.{cases_eq, eq-eqb, ne_eqb}
use Rattle.std.proofs.lemmas.List.{length-set}
use Rattle.tlsf_store.specs.declared.records.Record.{Record}
use Rattle.tlsf_store.specs.Records.{blank, record_at}
use Rattle.tlsf_store.specs.Cells.{Cells}
use Rattle.tlsf_store.proofs.RecordLaws.{record_at-set_same, record_at-set_other}
use Rattle.tlsf_heap.specs.Inner.Edits.{edited_in}
use Rattle.tlsf_store.specs.declared.records.State.TheVariants.{Live}
use Rattle.tlsf_heap.specs.Inner.Nodes.{InUse, Node, has_slot, nodes_in, is_listed_state, is_listed_in}
use Rattle.tlsf_heap.specs.Inner.Positions.{Position, laid}
use Rattle.tlsf_heap.specs.Inner.Represents.{InPool, pool_view, list_view, pool_views, list_views, in_pool, first_slot, uses_in, Represents}
use Rattle.tlsf_heap.proofs.Counts.{one_if, count-cons}
use Rattle.tlsf_heap.proofs.Inner.Links.{linked_moved, first_stands, count-front, count-behind}
use Rattle.tlsf_heap.proofs.Inner.Reads.{length-edited, edited_here, edited_apart, edited_kept, set_kept}
use Rattle.tlsf_heap.proofs.Inner.Chains.{uses_node, unlisted, unlisted_nowhere, AtNode, at_node, refilled}

module _ (cells : Cells) (count : ℕ) (position : Position) (node behind : Node) (nodes : List Node) (lists : List (List Node)) (taken : List ℕ)
    (was : Represents cells (laid count position (node ∷ behind ∷ nodes) lists taken)) (was_not : is_listed_state node.state ≡ false) (behind_not : is_listed_state behind.state ≡ false) where
  abbrev both : Node
  both = record node { size = node.size + behind.size; state = InUse }

  abbrev old : Record
  old = record_at cells.records node.slot

  abbrev grown : Record → Record
  grown r = record r { size = node.size + behind.size; state = Live; next = first_slot nodes }

  abbrev moved : Record → Record
  moved r = record r { prev = Some node.slot }

  abbrev one : List Record
  one = edited_in grown (Some node.slot) cells.records

  abbrev two : List Record
  two = edited_in moved (first_slot nodes) one

  abbrev new : List Record
  new = set two behind.slot blank

  abbrev beyond : Position
  beyond = record position { before = node ∷ position.before }

  here : AtNode cells.records position node (behind ∷ nodes) taken
  here = at_node cells.records position node (behind ∷ nodes) taken was.chains

  there : AtNode cells.records beyond behind nodes taken
  there = at_node cells.records beyond behind nodes taken was.chains

  apart : behind.slot ≢ node.slot
  apart = here.behind_apart behind.slot (count-front behind nodes)

  same_count : length two ≡ length cells.records
  same_count = length-edited moved (first_slot nodes) one ∙ length-edited grown (Some node.slot) cells.records

  others : (q : ℕ) → q ≢ node.slot → q ≢ behind.slot → first_slot nodes ≢ Some q → record_at new q ≡ record_at cells.records q
  others q a b c = record_at-set_other two behind.slot q blank b ∙ edited_apart moved (first_slot nodes) one q c ∙ record_at-set_other cells.records node.slot q _ a

  not_first : (q : ℕ) → count_by (has_slot q) nodes ≡ 0 → first_slot nodes ≢ Some q
  not_first q none e = omega (arith, none, first_stands nodes q e)

  at_slot : record_at new node.slot ≡ grown old
  at_slot =
      record_at-set_other two behind.slot node.slot blank (λ e. apart (sym e))
      ∙ edited_apart moved (first_slot nodes) one node.slot (not_first node.slot (omega (arith, here.most node.slot, count-cons (has_slot node.slot) node (behind ∷ nodes), count-cons (has_slot node.slot) behind nodes, ap one_if (eq-eqb node.slot node.slot refl))))
      ∙ record_at-set_same cells.records node.slot _ here.below

  at_first : (q : ℕ) → first_slot nodes ≡ Some q → record_at new q ≡ moved (record_at cells.records q)
  at_first q is =
      let h = first_stands nodes q is in
      let h_too = count-behind q behind nodes h in
      record_at-set_other two behind.slot q blank (there.behind_apart q h)
      ∙ edited_here moved (first_slot nodes) one q (omega (arith, length-edited grown (Some node.slot) cells.records, here.behind_below q h_too)) is
      ∙ ap moved (record_at-set_other cells.records node.slot q _ (here.behind_apart q h_too))

  -- what is seen alike of all but the one behind
  seen : {V : Type 0} (view : Record → V) → ((r : Record) → view (moved r) ≡ view r) → view (grown old) ≡ view old → (q : ℕ) → q ≢ behind.slot → view (record_at new q) ≡ view (record_at cells.records q)
  seen view same_moved same_grown q b =
      ap view (record_at-set_other two behind.slot q blank b) ∙ edited_kept view moved same_moved (first_slot nodes) one q ∙ set_kept view cells.records node.slot (grown old) same_grown q

  in_use : (q : ℕ) → one_if (eqb behind.slot q) + uses_in (record_at new q).state ≡ uses_in (record_at cells.records q).state
  in_use q = elim (cases_eq q behind.slot) [
    | inl at ↦
        let S : ℕ → Type 0 = λ n. one_if (eqb behind.slot n) + uses_in (record_at new n).state ≡ uses_in (record_at cells.records n).state in
        subst S (sym at) (omega (
          arith,
          ap one_if (eq-eqb behind.slot behind.slot refl),
          ap (λ (r : Record). uses_in r.state) (record_at-set_same two behind.slot blank (omega (arith, same_count, there.below))),
          there.used,
        ))
    | inr other ↦ omega (arith, ap one_if (ne_eqb behind.slot q (λ e. other (sym e))), seen (λ r. uses_in r.state) (λ r. refl) (uses_node InUse ∙ sym here.used) q other)
  ]

  listed_same : (number q : ℕ) → 1 ≤ count_by (has_slot q) (nodes_in number lists) → list_views new q ≡ list_views cells.records q
  listed_same number q h =
      seen list_view (λ r. refl) refl q (λ e.
      let P : ℕ → Type 0 = λ n. 1 ≤ count_by (has_slot n) (nodes_in number lists) in
      omega (arith, subst P e h, unlisted_nowhere (pool_views cells.records) beyond behind nodes lists taken was.chains was.agree behind_not number))

  pub merge_laid : Represents (record cells { records = new }) (laid count position (both ∷ nodes) lists taken)
  merge_laid =
      refilled cells count position (node ∷ behind ∷ nodes) (both ∷ nodes) lists taken taken new was (length-set two behind.slot blank ∙ same_count)
      (λ q h. others q (here.outside_apart q h) (there.outside_apart q (omega (arith, h, count-cons (has_slot q) node position.before))) (not_first q (omega (arith, h, here.most q, count-cons (has_slot q) node (behind ∷ nodes), count-cons (has_slot q) behind nodes))))
      refl (
        ap pool_view at_slot ∙ ap (λ (v : InPool). record v { size = node.size + behind.size; state = Live; next = first_slot nodes }) here.says,
        linked_moved in_pool (pool_views cells.records) (pool_views new) (λ v. record v { prev = Some node.slot }) (Some behind.slot) (Some node.slot) (λ other next. refl) nodes there.behind_once
            (λ q is. ap pool_view (at_first q is))
            (λ q isnt h. ap pool_view (others q (here.behind_apart q (count-behind q behind nodes h)) (there.behind_apart q h) isnt))
            there.linked,
      )
      (λ q. omega (arith, in_use q, count-cons (has_slot q) node (behind ∷ nodes), count-cons (has_slot q) behind nodes, count-cons (has_slot q) both nodes))
      listed_same
      (λ number test.
      let listed : Node → Bool = λ other. is_listed_in number other && test other in
      omega (arith, count-cons listed node (behind ∷ nodes), count-cons listed behind nodes, count-cons listed both nodes, unlisted number test node was_not, unlisted number test behind behind_not, unlisted number test both refl))
