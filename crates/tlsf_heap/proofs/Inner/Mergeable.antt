-- A node is merged with the free one behind it, or with the free one in front: what the steps need and leave.
use Rattle.std.proofs.Common.{◌≡◌, ℕ, ◌+◌, ◌%◌, ◌^◌, ◌<◌, Bool, true, false, cond, List, [], ◌∷◌, map, refl, sym, ap, ◌∙◌, subst, arith, count_by, Option, Some, None, inl, inr, option_map}
use Rattle.std.proofs.Math.Path.{transport}
use Rattle.std.proofs.lemmas.Bool.{cases_Bool, false≢true}
use Rattle.tlsf_class.specs.Classes.{unit, class}
use Rattle.tlsf_store.specs.declared.records.Record.{Record}
use Rattle.tlsf_store.specs.Records.{record_at, is_free_state}
use Rattle.tlsf_store.specs.Cells.{Cells}
use Rattle.tlsf_heap.specs.declared.span.Span.{Span}
use Rattle.tlsf_heap.specs.Inner.Edits.{IsUsed, unlinked_by}
use Rattle.tlsf_heap.specs.Inner.Spans.{IsRead, node_span, span_at, merged_by, CanMerge}
use Rattle.tlsf_heap.specs.Inner.Nodes.{NodeState, InUse, Listed, Loose, Node, Area, nodes_of, turned, block_of, pool_of, is_listed_state, left}
use Rattle.tlsf_heap.specs.Inner.Positions.{Position, laid, filled, is_loose, past, listed_first, left_by, merged_with_front, merged_with_behind}
use Rattle.tlsf_heap.specs.Inner.Represents.{InPool, in_pool, pool_views, record_state, first_slot, AreChains, Represents}
use Rattle.tlsf_heap.specs.Inner.At.{At, StandsAt, AreCovered, previous_merged, next_merged}
use Rattle.tlsf_heap.proofs.Good.MallocIsGood.{IsWholeBlock}
use Rattle.tlsf_heap.proofs.Counts.{one_if, count-cons}
use Rattle.tlsf_heap.proofs.Inner.Plugs.{count-filled}
use Rattle.tlsf_heap.proofs.Inner.Links.{Some≢None, Some-same}
use Rattle.tlsf_heap.proofs.Inner.Chains.{AtNode, at_node}
use Rattle.tlsf_heap.proofs.Inner.Used.{node_is_used, next_used}
use Rattle.tlsf_heap.proofs.Inner.Unlinked.{unlinked_laid, beside_used}
use Rattle.tlsf_heap.proofs.Inner.Merge.{merge_laid}
use Rattle.tlsf_heap.proofs.Inner.Steps.{prev_is, next_is}
use Rattle.tlsf_heap.proofs.Inner.Spans.{span_is}
use Rattle.tlsf_heap.proofs.Meaning.Covered.{node_whole, covered_refilled, covers_both}

-- what a merge needs and leads to, where one of the two is listed, of this record
pub record Merges (span : Span) (behind : ℕ) (listed : Record) (cells : Cells) (after : At) : Type 0 where
  pub ready : CanMerge span behind listed cells.records (unlinked_by (class listed.size) listed cells).records
  pub leads : StandsAt span.slot InUse (merged_by span behind listed cells) after
  pub is : span ≡ span_at after
  pub fits : span.size < 2 ^ 32

-- two nodes side by side, of which one was listed and leaves its list
module _ (cells : Cells) (count : ℕ) (listed_position : Position) (listed : Node) (listed_nodes : List Node) (position : Position) (front behind : Node) (nodes : List Node) (lists : List (List Node)) (taken : List ℕ)
    (was : Represents cells (laid count listed_position (turned Listed listed ∷ listed_nodes) lists taken)) (covered : AreCovered 0 (map pool_of (filled listed_position (turned Listed listed ∷ listed_nodes))))
    (side_by_side : filled listed_position (turned Loose listed ∷ listed_nodes) ≡ filled position (front ∷ behind ∷ nodes)) (front_unlisted : is_listed_state front.state ≡ false) (behind_unlisted : is_listed_state behind.state ≡ false)
    (covered_after : AreCovered 0 (map pool_of (filled position (record front { size = front.size + behind.size; state = InUse } ∷ nodes)))) where
  abbrev block : Record
  block = record_at cells.records listed.slot

  abbrev out : Cells
  out = unlinked_by (class block.size) block cells

  abbrev both : Node
  both = record front { size = front.size + behind.size; state = InUse }

  size_is : block.size ≡ listed.size
  size_is = ap (λ (v : InPool). v.size) (at_node cells.records listed_position (turned Listed listed) listed_nodes taken was.chains).says

  unlinked_was : Represents out (laid count position (front ∷ behind ∷ nodes) (left (turned Listed listed) lists) taken)
  unlinked_was =
      let P : ℕ → List Area → Type 0 = λ size areas. Represents (unlinked_by (class size) block cells) (record { count = count; areas = areas; lists = left (turned Listed listed) lists; taken = taken }) in
      subst (λ size. P size (filled position (front ∷ behind ∷ nodes))) (sym size_is) (subst (P listed.size) side_by_side (unlinked_laid cells count listed_position (turned Listed listed) listed_nodes lists taken was))

  both_whole : IsWholeBlock (block_of both)
  both_whole = node_whole position both nodes covered_after

  mergeable : CanMerge (node_span both nodes) behind.slot block cells.records out.records
  mergeable =
      let whole : IsWholeBlock (block_of (turned Listed listed)) = node_whole listed_position (turned Listed listed) listed_nodes covered in
      let next_position : Position = record position { before = front ∷ position.before } in
      let here : AtNode out.records position front (behind ∷ nodes) taken = at_node out.records position front (behind ∷ nodes) taken unlinked_was.chains in
      let there : AtNode out.records next_position behind nodes taken = at_node out.records next_position behind nodes taken unlinked_was.chains in
      record {
        some = omega (arith, whole.positive, size_is);
        whole = ap (λ n. n % unit) size_is ∙ whole.in_units;
        most = omega (arith, whole.at_most, size_is);
        prev_used = (beside_used cells count listed_position (turned Listed listed) listed_nodes lists taken was).0;
        next_used = (beside_used cells count listed_position (turned Listed listed) listed_nodes lists taken was).1;
        front_used = node_is_used out.records position front (behind ∷ nodes) taken here;
        behind_used = node_is_used out.records next_position behind nodes taken there;
        last_used = subst (λ o. IsUsed out.records o) (ap (λ (v : InPool). v.next) there.says) (next_used out.records next_position behind nodes taken there);
        in_units = both_whole.in_units;
      }

  merges_sides : count_by (λ node. is_loose node.state) (nodes_of (filled position nodes)) ≡ 0
      → Merges (node_span both nodes) behind.slot block cells (record { count = count; position = position; node = both; nodes = nodes; lists = left (turned Listed listed) lists; taken = taken })
  merges_sides settled = record {
    ready = mergeable;
    leads = (
      merge_laid out count position front behind nodes (left (turned Listed listed) lists) taken unlinked_was front_unlisted behind_unlisted,
      record { slot_is = refl; node_state_is = refl; others_settled = settled; covered = covered_after },
    );
    is = refl;
    fits = omega (arith, both_whole.at_most);
  }

-- the node in front is free
module _ (cells : Cells) (at : At) (front : Node) (before : List Node) where
  abbrev seen : List Node → At
  seen nodes = record at { position = record at.position { before = nodes } }

  merges_seen : (slot : ℕ) → StandsAt slot InUse cells (seen (turned Listed front ∷ before))
      → Merges (node_span (record front { size = front.size + at.node.size }) at.nodes) at.node.slot (record_at cells.records front.slot) cells (previous_merged (seen (turned Listed front ∷ before)))
  merges_seen slot stands =
      let position : Position = record at.position { before = before } in
      let loose : Node → Bool = λ node. is_loose node.state in
      let covered_after = covered_refilled position (turned Listed front ∷ at.node ∷ at.nodes) (record front { size = front.size + at.node.size; state = InUse } ∷ at.nodes) (λ from to c. covers_both InUse (turned Listed front) at.node at.nodes from to c) stands.1.covered in
      let settled : count_by loose (nodes_of (filled position at.nodes)) ≡ 0 = omega (arith, stands.1.others_settled, count-filled loose (record position { before = turned Listed front ∷ before }) at.nodes, count-filled loose position at.nodes, count-cons loose (turned Listed front) before) in
      merges_sides cells at.count position front (at.node ∷ at.nodes) position (turned Loose front) at.node at.nodes at.lists at.taken stands.0 stands.1.covered refl refl (ap is_listed_state stands.1.node_state_is) covered_after settled

-- the node behind is free
module _ (cells : Cells) (at : At) (behind : Node) (nodes : List Node) where
  merges_behind : (slot : ℕ) → StandsAt slot InUse cells (record at { nodes = turned Listed behind ∷ nodes })
      → Merges (node_span (record at.node { size = at.node.size + behind.size }) nodes) behind.slot (record_at cells.records behind.slot) cells (next_merged (record at { nodes = turned Listed behind ∷ nodes }))
  merges_behind slot stands =
      let loose : Node → Bool = λ node. is_loose node.state in
      let covered_after = covered_refilled at.position (at.node ∷ turned Listed behind ∷ nodes) (record at.node { size = at.node.size + behind.size; state = InUse } ∷ nodes) (λ from to c. covers_both InUse at.node (turned Listed behind) nodes from to c) stands.1.covered in
      let settled : count_by loose (nodes_of (filled at.position nodes)) ≡ 0 = omega (arith, stands.1.others_settled, count-filled loose at.position (turned Listed behind ∷ nodes), count-filled loose at.position nodes, count-cons loose (turned Listed behind) nodes) in
      merges_sides cells at.count (record at.position { before = at.node ∷ at.position.before }) behind nodes at.position at.node (turned Loose behind) nodes at.lists at.taken stands.0 stands.1.covered refl (ap is_listed_state stands.1.node_state_is) refl covered_after settled

-- the first of some nodes, which has this slot, and what its record says
pub record Neighbour (records : List Record) (slot : ℕ) (nodes : List Node) (prev next : List Node → Option ℕ) : Type 0 where
  pub node : Node
  pub others : List Node
  pub is : nodes ≡ node ∷ others
  pub slot_is : node.slot ≡ slot
  pub says : pool_views records slot ≡ in_pool (prev others) node (next others)
  pub settled : is_loose node.state ≡ false

settled_first : (node : Node) (nodes : List Node) → count_by (λ n. is_loose n.state) (node ∷ nodes) ≡ 0 → is_loose node.state ≡ false
settled_first node nodes none = elim (cases_Bool (is_loose node.state)) [
  | inl loose ↦ absurd (omega (arith, none, count-cons (λ n. is_loose n.state) node nodes, ap one_if loose))
  | inr settled ↦ settled
]

node_state_free : (s : NodeState) → is_loose s ≡ false → is_free_state (record_state s) ≡ true → s ≡ Listed
node_state_free InUse settled free = absurd (false≢true free)
node_state_free Listed settled free = refl
node_state_free Loose settled free = absurd (false≢true (sym settled))

node_state_live : (s : NodeState) → is_free_state (record_state s) ≡ false → is_listed_state s ≡ false
node_state_live InUse live = refl
node_state_live Listed live = absurd (false≢true (sym live))
node_state_live Loose live = refl

module _ (cells : Cells) (at : At) (slot : ℕ) (node_state : NodeState) (stands : StandsAt slot node_state cells at) where
  abbrev loose : Node → Bool
  loose node = is_loose node.state

  abbrev this : List Node → Option ℕ
  this others = Some at.node.slot

  pub in_front : (p : ℕ) → (record_at cells.records slot).prev ≡ Some p → Neighbour cells.records p at.position.before first_slot this
  in_front p is = go at.position.before (sym (prev_is cells slot node_state at stands) ∙ is) stands.0.chains (omega (arith, stands.1.others_settled, count-filled loose at.position at.nodes))
    where
      go : (before : List Node) → first_slot before ≡ Some p → AreChains (pool_views cells.records) (filled (record at.position { before = before }) (at.node ∷ at.nodes)) at.taken → count_by loose before ≡ 0 → Neighbour cells.records p before first_slot this
      go [] first chains none = absurd (Some≢None p (sym first))
      go (f ∷ before) first chains none =
          let own = Some-same f.slot p first in
          let says = (at_node cells.records (record at.position { before = before }) f (at.node ∷ at.nodes) at.taken chains).says in
          record { node = f; others = before; is = refl; slot_is = own; says = ap (pool_views cells.records) (sym own) ∙ says; settled = settled_first f before none }

  pub in_back : (n : ℕ) → (record_at cells.records slot).next ≡ Some n → Neighbour cells.records n at.nodes this first_slot
  in_back n is = go at.nodes (sym (next_is cells slot node_state at stands) ∙ is) stands.0.chains (omega (arith, stands.1.others_settled, count-filled loose at.position at.nodes))
    where
      go : (nodes : List Node) → first_slot nodes ≡ Some n → AreChains (pool_views cells.records) (filled at.position (at.node ∷ nodes)) at.taken → count_by loose nodes ≡ 0 → Neighbour cells.records n nodes this first_slot
      go [] first chains none = absurd (Some≢None n (sym first))
      go (b ∷ nodes) first chains none =
          let own = Some-same b.slot n first in
          let says = (at_node cells.records (record at.position { before = at.node ∷ at.position.before }) b nodes at.taken chains).says in
          record { node = b; others = nodes; is = refl; slot_is = own; says = ap (pool_views cells.records) (sym own) ∙ says; settled = settled_first b nodes none }

module _ {prev next : List Node → Option ℕ} (records : List Record) (slot : ℕ) (nodes : List Node) (by : Neighbour records slot nodes prev next) where
  by_state : (record_at records slot).state ≡ record_state by.node.state
  by_state = ap (λ (v : InPool). v.state) by.says

  by_free : is_free_state (record_at records slot).state ≡ true → by.node.state ≡ Listed
  by_free free = node_state_free by.node.state by.settled (ap is_free_state (sym by_state) ∙ free)

  -- a listed neighbour, as a node turned so
  turned_listed : is_free_state (record_at records slot).state ≡ true → nodes ≡ turned Listed by.node ∷ by.others
  turned_listed free = by.is ∙ ap (λ s. turned s by.node ∷ by.others) (by_free free)

  -- what stays where the neighbour isn't free
  past_live : is_free_state (record_at records slot).state ≡ false → (past nodes ≡ nodes) × (listed_first nodes ≡ None)
  past_live live =
      let P : List Node → Type 0 = λ ns. (past ns ≡ ns) × (listed_first ns ≡ None) in
      let is_not : is_listed_state by.node.state ≡ false = node_state_live by.node.state (ap is_free_state (sym by_state) ∙ live) in
      subst P (sym by.is) (ap (λ b. cond b by.others (by.node ∷ by.others)) is_not, ap (λ b. cond b (Some by.node) None) is_not)

past_none : (nodes : List Node) → first_slot nodes ≡ None → (past nodes ≡ nodes) × (listed_first nodes ≡ None)
past_none [] none = (refl, refl)
past_none (node ∷ nodes) none = absurd (Some≢None node.slot none)

unmerged_front : (at : At) → (past at.position.before ≡ at.position.before) × (listed_first at.position.before ≡ None) → previous_merged at ≡ at
unmerged_front at same = λ i. record at { position = record at.position { before = same.0 i }; node = merged_with_front (same.1 i) at.node; lists = left_by (same.1 i) at.lists }

unmerged_back : (at : At) → (past at.nodes ≡ at.nodes) × (listed_first at.nodes ≡ None) → next_merged at ≡ at
unmerged_back at same = λ i. record at { nodes = same.0 i; node = merged_with_behind (same.1 i) at.node; lists = left_by (same.1 i) at.lists }

module _ (cells : Cells) (at : At) (span : Span) (stands : StandsAt span.slot InUse cells at) where
  -- the free block in front takes it in
  pub previous_merges : (p : ℕ) (front : Record) → IsRead span cells.records → (record_at cells.records span.slot).prev ≡ Some p → front ≡ record_at cells.records p → is_free_state front.state ≡ true
      → Merges (record { slot = p; place = front.place; size = front.size + span.size; next = span.next }) span.slot front cells (previous_merged at)
  previous_merges p front read link is free =
      let by = in_front cells at span.slot InUse stands p link in
      let known : span ≡ span_at at = span_is cells InUse at span stands read in
      let front_free = ap (λ (r : Record). is_free_state r.state) (sym is) ∙ free in
      let P : List Node → Type 0 = λ ns. StandsAt span.slot InUse cells (seen cells at by.node by.others ns)
      → Merges (node_span (record by.node { size = by.node.size + at.node.size }) at.nodes) at.node.slot (record_at cells.records by.node.slot) cells (previous_merged (seen cells at by.node by.others ns)) in
      let base = subst P (sym (turned_listed cells.records p at.position.before by front_free)) (merges_seen cells at by.node by.others span.slot) stands in
      let place : by.node.place ≡ front.place = sym (ap (λ (r : Record). r.place) is ∙ ap (λ (v : InPool). v.place) by.says) in
      let size : by.node.size + at.node.size ≡ front.size + span.size = omega (arith, ap (λ (r : Record). r.size) is, ap (λ (v : InPool). v.size) by.says, ap (λ (s : Span). s.size) known) in
      let next : first_slot at.nodes ≡ span.next = sym (ap (λ (s : Span). s.next) known) in
      let block : record_at cells.records by.node.slot ≡ front = ap (record_at cells.records) by.slot_is ∙ sym is in
      transport (λ i. Merges (record { slot = by.slot_is i; place = place i; size = size i; next = next i }) (stands.1.slot_is i) (block i) cells (previous_merged at)) base

  pub front_stays : (record_at cells.records span.slot).prev ≡ None → previous_merged at ≡ at
  front_stays none = unmerged_front at (past_none at.position.before (sym (prev_is cells span.slot InUse at stands) ∙ none))

  pub front_is_live : (p : ℕ) → (record_at cells.records span.slot).prev ≡ Some p → is_free_state (record_at cells.records p).state ≡ false → previous_merged at ≡ at
  front_is_live p link live = unmerged_front at (past_live cells.records p at.position.before (in_front cells at span.slot InUse stands p link) live)

  -- it is merged with the free block behind
  pub next_merges : (n : ℕ) (next : Record) → IsRead span cells.records → span.next ≡ Some n → next ≡ record_at cells.records n → is_free_state next.state ≡ true
      → Merges (record span { size = span.size + next.size; next = next.next }) n next cells (next_merged at)
  next_merges n next read link is free =
      let by = in_back cells at span.slot InUse stands n (sym read.next ∙ link) in
      let known : span ≡ span_at at = span_is cells InUse at span stands read in
      let next_free = ap (λ (r : Record). is_free_state r.state) (sym is) ∙ free in
      let P : List Node → Type 0 = λ ns. StandsAt span.slot InUse cells (record at { nodes = ns })
      → Merges (node_span (record at.node { size = at.node.size + by.node.size }) by.others) by.node.slot (record_at cells.records by.node.slot) cells (next_merged (record at { nodes = ns })) in
      let base = subst P (sym (turned_listed cells.records n at.nodes by next_free)) (merges_behind cells at by.node by.others span.slot) stands in
      let place : at.node.place ≡ span.place = sym (ap (λ (s : Span). s.place) known) in
      let size : at.node.size + by.node.size ≡ span.size + next.size = omega (arith, ap (λ (r : Record). r.size) is, ap (λ (v : InPool). v.size) by.says, ap (λ (s : Span). s.size) known) in
      let behind : first_slot by.others ≡ next.next = sym (ap (λ (r : Record). r.next) is ∙ ap (λ (v : InPool). v.next) by.says) in
      let block : record_at cells.records by.node.slot ≡ next = ap (record_at cells.records) by.slot_is ∙ sym is in
      transport (λ i. Merges (record { slot = stands.1.slot_is i; place = place i; size = size i; next = behind i }) (by.slot_is i) (block i) cells (next_merged at)) base

  pub back_stays : (record_at cells.records span.slot).next ≡ None → next_merged at ≡ at
  back_stays none = unmerged_back at (past_none at.nodes (sym (next_is cells span.slot InUse at stands) ∙ none))

  pub back_is_live : (n : ℕ) → (record_at cells.records span.slot).next ≡ Some n → is_free_state (record_at cells.records n).state ≡ false → next_merged at ≡ at
  back_is_live n link live = unmerged_back at (past_live cells.records n at.nodes (in_back cells at span.slot InUse stands n link) live)

-- the free one behind, by the records
module _ (cells : Cells) (at : At) (slot : ℕ) (node_state : NodeState) (stands : StandsAt slot node_state cells at) where
  pub listed_none : (record_at cells.records slot).next ≡ None → listed_first at.nodes ≡ None
  listed_none none = (past_none at.nodes (sym (next_is cells slot node_state at stands) ∙ none)).1

  pub listed_live : (n : ℕ) → (record_at cells.records slot).next ≡ Some n → is_free_state (record_at cells.records n).state ≡ false → listed_first at.nodes ≡ None
  listed_live n link live = (past_live cells.records n at.nodes (in_back cells at slot node_state stands n link) live).1

  pub listed_free : (n : ℕ) → (record_at cells.records slot).next ≡ Some n → is_free_state (record_at cells.records n).state ≡ true → option_map (λ (node : Node). node.size) (listed_first at.nodes) ≡ Some (record_at cells.records n).size
  listed_free n link free =
      let by = in_back cells at slot node_state stands n link in
      ap (λ ns. option_map (λ (node : Node). node.size) (listed_first ns)) (turned_listed cells.records n at.nodes by free) ∙ ap Some (sym (ap (λ (v : InPool). v.size) by.says))
