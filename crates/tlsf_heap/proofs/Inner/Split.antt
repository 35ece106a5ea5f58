-- A block that is in no list keeps its first bytes, and a taken slot has the rest.
use Rattle.std.proofs.Common.{◌≡◌, ◌≢◌, ℕ, ◌+◌, ◌≤◌, Bool, false, ◌&&◌, List, ◌∷◌, set, refl, sym, ap, ◌∙◌, arith, count_by, length, Option, Some}
use Rattle.std.proofs.lemmas.Bool.{eq-eqb}
use Rattle.std.proofs.lemmas.List.{length-set}
use Rattle.tlsf_store.specs.declared.records.Record.{Record}
use Rattle.tlsf_store.specs.declared.records.State.TheVariants.{Live}
use Rattle.tlsf_store.specs.Records.{record_at}
use Rattle.tlsf_store.specs.Cells.{Cells}
use Rattle.tlsf_store.proofs.RecordLaws.{record_at-set_same, record_at-set_other}
use Rattle.tlsf_heap.specs.Inner.Edits.{edited_in}
use Rattle.tlsf_heap.specs.Inner.Spans.{node_span, rest_record, split_by}
use Rattle.tlsf_heap.specs.Good.{times}
use Rattle.tlsf_heap.specs.Inner.Nodes.{NodeState, InUse, Node, turned, rest_node, has_slot, nodes_in, is_listed_state, is_listed_in}
use Rattle.tlsf_heap.specs.Inner.Positions.{Position, laid, filled}
use Rattle.tlsf_heap.specs.Inner.Represents.{InPool, pool_view, list_view, pool_views, list_views, in_pool, first_slot, record_state, uses_in, Represents}
use Rattle.tlsf_heap.proofs.Counts.{one_if, count-cons}
use Rattle.tlsf_heap.proofs.Inner.Plugs.{around}
use Rattle.tlsf_heap.proofs.Inner.Links.{linked_moved, first_stands}
use Rattle.tlsf_heap.proofs.Inner.Reads.{length-edited, edited_here, edited_apart, edited_kept, set_kept}
use Rattle.tlsf_heap.proofs.Content.FreeLists.{times-cons}
use Rattle.tlsf_heap.proofs.Inner.Chains.{uses_node, not_taken, unlisted, listed_within, AtNode, at_node, refilled}

module _ (cells : Cells) (count : ℕ) (position : Position) (node : Node) (nodes : List Node) (lists : List (List Node)) (rest : ℕ) (back : NodeState) (second : Option ℕ) (taken : List ℕ) (bytes : ℕ)
    (was : Represents cells (laid count position (node ∷ nodes) lists (rest ∷ taken))) (was_not : is_listed_state node.state ≡ false) (back_not : is_listed_state back ≡ false) where
  abbrev left : Record
  left = rest_record (record_state back) (node_span node nodes) second bytes

  abbrev kept : Record → Record
  kept r = record r { size = bytes; state = Live; next = Some rest }

  abbrev moved : Record → Record
  moved r = record r { prev = Some rest }

  abbrev one : List Record
  one = set cells.records rest left

  abbrev two : List Record
  two = edited_in kept (Some node.slot) one

  abbrev new : List Record
  new = edited_in moved (first_slot nodes) two

  here : AtNode cells.records position node nodes (rest ∷ taken)
  here = at_node cells.records position node nodes (rest ∷ taken) was.chains

  rest_counts : 1 ≤ times rest (rest ∷ taken)
  rest_counts = omega (arith, times-cons rest rest taken, ap one_if (eq-eqb rest rest refl))

  apart : rest ≢ node.slot
  apart = here.taken_apart rest rest_counts

  same_count : length two ≡ length cells.records
  same_count = length-edited kept (Some node.slot) one ∙ length-set cells.records rest left

  rest_apart : (q : ℕ) → 1 ≤ around (has_slot q) position + count_by (has_slot q) (node ∷ nodes) → q ≢ rest
  rest_apart q h = (not_taken q rest taken (omega (arith, h, here.most q))).0

  behind_rest_apart : (q : ℕ) → 1 ≤ count_by (has_slot q) nodes → q ≢ rest
  behind_rest_apart q h = rest_apart q (omega (arith, h, count-cons (has_slot q) node nodes))

  others : (q : ℕ) → q ≢ node.slot → q ≢ rest → record_at two q ≡ record_at cells.records q
  others q a b = record_at-set_other one node.slot q (kept (record_at one node.slot)) a ∙ record_at-set_other cells.records rest q left b

  not_first : (q : ℕ) → count_by (has_slot q) nodes ≡ 0 → record_at new q ≡ record_at two q
  not_first q none = edited_apart moved (first_slot nodes) two q (λ e. omega (arith, none, first_stands nodes q e))

  still : record_at one node.slot ≡ record_at cells.records node.slot
  still = record_at-set_other cells.records rest node.slot left (λ e. apart (sym e))

  at_slot : record_at new node.slot ≡ kept (record_at cells.records node.slot)
  at_slot =
      not_first node.slot (omega (arith, here.most node.slot, count-cons (has_slot node.slot) node nodes, ap one_if (eq-eqb node.slot node.slot refl)))
      ∙ edited_here kept (Some node.slot) one node.slot (omega (arith, length-set cells.records rest left, here.below)) refl ∙ ap kept still

  pub at_rest : record_at new rest ≡ left
  at_rest =
      not_first rest (omega (arith, here.most rest, rest_counts, count-cons (has_slot rest) node nodes))
      ∙ record_at-set_other one node.slot rest (kept (record_at one node.slot)) apart ∙ record_at-set_same cells.records rest left (here.taken_below rest rest_counts)

  -- what is seen alike of the block and what it was, and of what is read at the others' slots
  seen : {V : Type 0} (view : Record → V) → ((r : Record) → view (moved r) ≡ view r) → view (kept (record_at one node.slot)) ≡ view (record_at one node.slot) → (q : ℕ) → view (record_at one q) ≡ view (record_at cells.records q) → view (record_at new q) ≡ view (record_at cells.records q)
  seen view same_moved same_kept q same = edited_kept view moved same_moved (first_slot nodes) two q ∙ set_kept view one node.slot (kept (record_at one node.slot)) same_kept q ∙ same

  in_use : (q : ℕ) → uses_in (record_at new q).state ≡ uses_in (record_at cells.records q).state
  in_use q =
      let view : Record → ℕ = λ r. uses_in r.state in
      let rest_used : uses_in (record_state back) ≡ uses_in (record_at cells.records rest).state = omega (arith, uses_node back, here.once rest, rest_counts, here.most rest) in
      seen view (λ r. refl) (uses_node InUse ∙ sym (ap view still ∙ here.used)) q (set_kept view cells.records rest left rest_used q)

  listed_same : (number q : ℕ) → 1 ≤ count_by (has_slot q) (nodes_in number lists) → list_views new q ≡ list_views cells.records q
  listed_same number q h =
      seen list_view (λ r. refl) refl q (ap list_view (record_at-set_other cells.records rest q left
      (not_taken q rest taken (omega (arith, h, listed_within (filled position (node ∷ nodes)) lists was.agree number q, was.chains.once q, here.most q, here.once q))).0))

  pub split_laid : Represents (split_by (node_span node nodes) rest (record_state back) second bytes cells) (laid count position (record node { size = bytes; state = InUse } ∷ turned back (rest_node rest bytes node) ∷ nodes) lists taken)
  split_laid =
      let first : Node = record node { size = bytes; state = InUse } in
      let second : Node = turned back (rest_node rest bytes node) in
      refilled cells count position (node ∷ nodes) (first ∷ second ∷ nodes) lists (rest ∷ taken) taken new was (length-edited moved (first_slot nodes) two ∙ same_count)
      (λ q h. not_first q (omega (arith, h, here.most q, count-cons (has_slot q) node nodes)) ∙ others q (here.outside_apart q h) (rest_apart q (omega (arith, h))))
      refl (
        ap pool_view at_slot ∙ ap (λ (v : InPool). record v { size = bytes; state = Live; next = Some rest }) here.says,
        (
          ap pool_view at_rest,
          linked_moved in_pool (pool_views cells.records) (pool_views new) (λ v. record v { prev = Some rest }) (Some node.slot) (Some rest) (λ other next. refl) nodes here.behind_once
              (λ q is.
              let h = first_stands nodes q is in
              ap pool_view (edited_here moved (first_slot nodes) two q (omega (arith, same_count, here.behind_below q h)) is ∙ ap moved (others q (here.behind_apart q h) (behind_rest_apart q h))))
              (λ q isnt h. ap pool_view (edited_apart moved (first_slot nodes) two q isnt ∙ others q (here.behind_apart q h) (behind_rest_apart q h)))
              here.linked,
        ),
      )
      (λ q. omega (arith, in_use q, times-cons q rest taken, count-cons (has_slot q) node nodes, count-cons (has_slot q) first (second ∷ nodes), count-cons (has_slot q) second nodes))
      listed_same
      (λ number test.
      let listed : Node → Bool = λ other. is_listed_in number other && test other in
      omega (arith, count-cons listed node nodes, count-cons listed first (second ∷ nodes), count-cons listed second nodes, unlisted number test node was_not, unlisted number test first refl, unlisted number test second back_not))
