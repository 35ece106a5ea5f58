-- The live block that a pointer is of, as a node at its position, and what is left once it was freed.
use Rattle.std.proofs.Common.{◌≡◌, ◌≢◌, ℕ, Bool, true, false, ◌&&◌, [], ◌∷◌, map, refl, sym, ap, ◌∙◌, subst, arith, count_by, inl, inr}
use Rattle.std.specs.Prelude.{◌==◌}
use Rattle.std.specs.List.{list_any}
use Rattle.std.proofs.lemmas.Bool.{cases_Bool, eq-eqb, eqb-true, and_parts, false≢true}
use Rattle.tlsf_store.specs.declared.records.State.{State}
use Rattle.tlsf_store.specs.declared.records.State.TheVariants.{Vacant, Free, Live}
use Rattle.tlsf_store.specs.Records.{record_at, is_live_state}
use Rattle.tlsf_store.specs.Cells.{Cells}
use Rattle.tlsf_heap.specs.Content.{Block, Content, blocks_of, is_at, size_at}
use Rattle.tlsf_heap.specs.Good.{times, IsGood}
use Rattle.tlsf_heap.specs.Free.{is_owned_by, is_live, after_free}
use Rattle.tlsf_heap.specs.Inner.Nodes.{NodeState, InUse, Listed, Loose, Node, Layout, turned, owner_of, block_of, pool_of, content_by, nodes_of, has_slot, has_place}
use Rattle.tlsf_heap.specs.Inner.Positions.{filled, is_loose}
use Rattle.tlsf_heap.specs.Inner.Represents.{record_state, uses_in, Represents}
use Rattle.tlsf_heap.specs.Inner.Following.{content_of, Stands}
use Rattle.tlsf_heap.specs.Inner.At.{At, areas_at, layout_at, StandsAt, at_freed}
use Rattle.tlsf_heap.proofs.Counts.{one_if, count-cons, any_counts, counts_any, any-map}
use Rattle.tlsf_heap.proofs.Inner.Plugs.{count-filled}
use Rattle.tlsf_heap.proofs.Inner.Chains.{uses_most}
use Rattle.tlsf_heap.proofs.Inner.Followed.{content_is, stood_for}
use Rattle.tlsf_heap.proofs.Inner.Standing.{content_is_good}
use Rattle.tlsf_heap.proofs.Inner.Located.{Located, located}
use Rattle.tlsf_heap.proofs.Inner.Steps.{place_read, state_read}
use Rattle.tlsf_heap.proofs.Meaning.Places.{AgreeOnce, alone, places_once, blocks_of_areas}
use Rattle.tlsf_heap.proofs.Meaning.NodeBlocks.{size_is}
use Rattle.tlsf_heap.proofs.Meaning.Covered.{covered_good}
use Rattle.tlsf_heap.proofs.Meaning.Freed.{freed_is}
use Rattle.tlsf_heap.proofs.Meaning.FreedIsGood.{freed_is_good}

-- whether the node is live, with this place and this slot
abbrev is_live_node : ℕ → ℕ → Node → Bool
is_live_node place slot node = has_place place node && is_owned_by (λ owner. owner == slot) (owner_of node.state node.slot)

owned_in_use : (slot q : ℕ) (node_state : NodeState) → is_owned_by (λ owner. owner == slot) (owner_of node_state q) ≡ true → (node_state ≡ InUse) × (q ≡ slot)
owned_in_use slot q InUse owned = (refl, eqb-true q slot owned)
owned_in_use slot q Listed owned = absurd (false≢true owned)
owned_in_use slot q Loose owned = absurd (false≢true owned)

live_in_use : (node_state : NodeState) → record_state node_state ≡ Live → node_state ≡ InUse
live_in_use InUse live = refl
live_in_use Listed live = absurd (cc)
live_in_use Loose live = absurd (cc)

-- the node of a layout at its position
pub record NodeAt (place slot : ℕ) (node_state : NodeState) (cells : Cells) (layout : Layout) : Type 0 where
  pub at : At
  pub stands : StandsAt slot node_state cells at
  pub place_is : at.node.place ≡ place
  pub layout_is : layout ≡ layout_at at

-- what the lists of a good layout tell
pub agree_once : (cells : Cells) (layout : Layout) → Represents cells layout → IsGood (content_by layout) → AgreeOnce layout.areas layout.lists
agree_once cells layout was good = record {
  full = was.index.lists_count;
  agree = was.agree;
  slots = λ q. omega (arith, was.chains.once q, uses_most (record_at cells.records q).state);
  places = places_once layout good;
}

-- what is known of a node at its position, in the state that it has
-- a state that is of a live block
pub state_live : (state : State) → is_live_state state ≡ true → state ≡ Live
state_live Vacant is = absurd (cc)
state_live Free is = absurd (cc)
state_live Live is = refl

module _ (cells : Cells) (stands : Stands cells) (place slot : ℕ) (node_state : NodeState) (by : NodeAt place slot node_state cells stands.layout) where
  -- the layout with the node in this state
  node_laid : stands.layout ≡ layout_at (record by.at { node = turned node_state by.at.node })
  node_laid = by.layout_is ∙ ap (λ s. layout_at (record by.at { node = turned s by.at.node })) by.stands.1.node_state_is

  pub node_stood : content_of cells ≡ content_by (layout_at (record by.at { node = turned node_state by.at.node }))
  node_stood = stood_for cells stands ∙ ap content_by node_laid

  pub node_good : IsGood (content_by (layout_at (record by.at { node = turned node_state by.at.node })))
  node_good = let P : Layout → Type 0 = λ l. IsGood (content_by l) in subst P node_laid stands.good

  pub node_agrees_once : AgreeOnce (filled by.at.position (turned node_state by.at.node ∷ by.at.nodes)) by.at.lists
  node_agrees_once = let P : Layout → Type 0 = λ l. Represents cells l in agree_once cells (layout_at (record by.at { node = turned node_state by.at.node })) (subst P node_laid stands.represented) node_good

  -- its size is that of the block at the place
  pub node_size : size_at place (blocks_of (content_of cells).pools) ≡ by.at.node.size
  node_size =
      ap (λ (x : Content ℕ). size_at place (blocks_of x.pools)) node_stood
      ∙ ap (λ p. size_at p (blocks_of (map pool_of (filled by.at.position (turned node_state by.at.node ∷ by.at.nodes))))) (sym by.place_is)
      ∙ size_is by.at.position (turned node_state by.at.node) by.at.nodes (alone by.at.position (turned node_state by.at.node) by.at.nodes node_agrees_once.places)

  pub node_taken : by.at.taken ≡ []
  node_taken = ap (λ (l : Layout). l.taken) (sym by.layout_is) ∙ stands.none_taken

settled_free : (node_state : NodeState) → is_loose node_state ≡ false → record_state node_state ≡ Free → node_state ≡ Listed
settled_free InUse settled free = absurd (cc)
settled_free Listed settled free = refl
settled_free Loose settled free = absurd (false≢true (sym settled))

-- new cells that represent a layout in which no node is loose
pub stands_with : (new : Cells) (slot : ℕ) (node_state : NodeState) (at : At) (content : Content ℕ) → StandsAt slot node_state new at → is_loose node_state ≡ false → at.taken ≡ [] → content_by (layout_at at) ≡ content → IsGood content → Stands new × (content_of new ≡ content)
stands_with new slot node_state at content after settled none is good =
    let loose : Node → Bool = λ n. is_loose n.state in
    let P : Content ℕ → Type 0 = λ x. IsGood x in (
      record {
        layout = layout_at at;
        represented = after.0;
        settled = omega (
          arith,
          after.1.others_settled,
          count-filled loose at.position (at.node ∷ at.nodes),
          count-filled loose at.position at.nodes,
          count-cons loose at.node at.nodes,
          ap (λ s. one_if (is_loose s)) after.1.node_state_is,
          ap one_if settled,
        );
        none_taken = none;
        good = subst P (sym is) good;
      },
      content_is new (layout_at at) after.0 ∙ is,
    )

module _ (cells : Cells) (stands : Stands cells) where
  -- a node that is found, where no node is loose
  abbrev pub at_found : (test : Node → Bool) → Located test stands.layout.areas → At
  at_found test found = record { count = stands.layout.count; position = found.position; node = found.node; nodes = found.nodes; lists = stands.layout.lists; taken = stands.layout.taken }

  pub found_laid : (test : Node → Bool) (found : Located test stands.layout.areas) → stands.layout ≡ layout_at (at_found test found)
  found_laid test found = ap (λ areas. record stands.layout { areas = areas }) found.whole

  pub found_stands : (test : Node → Bool) (slot : ℕ) (node_state : NodeState) (found : Located test stands.layout.areas) → found.node.slot ≡ slot → found.node.state ≡ node_state → StandsAt slot node_state cells (at_found test found)
  found_stands test slot node_state found slot_is node_state_is =
      let at : At = at_found test found in
      let loose : Node → Bool = λ node. is_loose node.state in
      let P : Layout → Type 0 = λ l. Represents cells l in
      let Q : Layout → Type 0 = λ l. IsGood (content_by l) in
      let settled = ap (λ areas. count_by loose (nodes_of areas)) (sym found.whole) ∙ stands.settled in (
        subst P (found_laid test found) stands.represented,
        record {
          slot_is = slot_is;
          node_state_is = node_state_is;
          others_settled = omega (arith, settled, count-filled loose found.position (found.node ∷ found.nodes), count-filled loose found.position found.nodes, count-cons loose found.node found.nodes);
          covered = covered_good 0 (map pool_of (areas_at at)) (subst Q (found_laid test found) stands.good).pools_good;
        },
      )

  not_loose : (test : Node → Bool) (found : Located test stands.layout.areas) → is_loose found.node.state ≡ false
  not_loose test found =
      let loose : Node → Bool = λ node. is_loose node.state in
      let all = ap (λ areas. count_by loose (nodes_of areas)) (sym found.whole) ∙ stands.settled in
      elim (cases_Bool (is_loose found.node.state)) [
        | inl is ↦ absurd (omega (arith, all, count-filled loose found.position (found.node ∷ found.nodes), count-cons loose found.node found.nodes, ap one_if is))
        | inr isnt ↦ isnt
      ]

  node_at : (test : Node → Bool) (place slot : ℕ) (node_state : NodeState) (found : Located test stands.layout.areas) → found.node.slot ≡ slot → found.node.state ≡ node_state → found.node.place ≡ place → NodeAt place slot node_state cells stands.layout
  node_at test place slot node_state found slot_is node_state_is place_is = record { at = at_found test found; stands = found_stands test slot node_state found slot_is node_state_is; place_is = place_is; layout_is = found_laid test found }

  told : (place slot : ℕ) → is_live (λ owner. owner == slot) place (blocks_of (content_of cells).pools) ≡ list_any (is_live_node place slot) (nodes_of stands.layout.areas)
  told place slot =
      ap (λ (x : Content ℕ). is_live (λ owner. owner == slot) place (blocks_of x.pools)) (stood_for cells stands)
      ∙ ap (is_live (λ owner. owner == slot) place) (blocks_of_areas stands.layout.areas)
      ∙ any-map (λ (block : Block ℕ). is_at place block && is_owned_by (λ owner. owner == slot) block.owner) block_of (nodes_of stands.layout.areas)

  -- a live block is a node in use
  pub live_at : (place slot : ℕ) → is_live (λ owner. owner == slot) place (blocks_of (content_of cells).pools) ≡ true → NodeAt place slot InUse cells stands.layout
  live_at place slot live =
      let found : Located (is_live_node place slot) stands.layout.areas = located (is_live_node place slot) stands.layout.areas (any_counts (is_live_node place slot) (nodes_of stands.layout.areas) (sym (told place slot) ∙ live)) in
      let parts = and_parts _ _ found.passes in
      let owned = owned_in_use slot found.node.slot found.node.state parts.1 in
      node_at (is_live_node place slot) place slot InUse found owned.1 owned.0 (eqb-true found.node.place place parts.0)

  -- where the slot's record is live
  pub has_live : (place slot : ℕ) → (record_at cells.records slot).state ≡ Live → (record_at cells.records slot).place ≡ place → is_live (λ owner. owner == slot) place (blocks_of (content_of cells).pools) ≡ true
  has_live place slot live place_is =
      let none : times slot stands.layout.taken ≡ 0 = ap (times slot) stands.none_taken in
      let found : Located (has_slot slot) stands.layout.areas = located (has_slot slot) stands.layout.areas (omega (arith, stands.represented.chains.once slot, none, ap uses_in live)) in
      let own : found.node.slot ≡ slot = eqb-true found.node.slot slot found.passes in
      let at : At = at_found (has_slot slot) found in
      let here : StandsAt slot found.node.state cells at = found_stands (has_slot slot) slot found.node.state found own refl in
      let in_use : found.node.state ≡ InUse = live_in_use found.node.state (sym (state_read cells slot found.node.state at here) ∙ live) in
      let place_too : found.node.place ≡ place = sym (place_read cells slot found.node.state at here) ∙ place_is in
      let test : Node → Bool = is_live_node place slot in
      let Q : NodeState → Type 0 = λ s. is_owned_by (λ owner. owner == slot) (owner_of s found.node.slot) ≡ true in
      let owned : is_owned_by (λ owner. owner == slot) (owner_of found.node.state found.node.slot) ≡ true = subst Q (sym in_use) (eq-eqb found.node.slot slot own) in
      let passes : test found.node ≡ true = rw (eq-eqb found.node.place place place_too, owned) refl in
      told place slot
      ∙ counts_any test (nodes_of stands.layout.areas)
      (omega (arith, ap (λ areas. count_by test (nodes_of areas)) found.whole, count-filled test found.position (found.node ∷ found.nodes), count-cons test found.node found.nodes, ap one_if passes))

  -- a free block is a listed node
  pub found_listed : (slot : ℕ) (found : Located (has_slot slot) stands.layout.areas) → (record_at cells.records slot).state ≡ Free → (found.node.state ≡ Listed) × (found.node.place ≡ (record_at cells.records slot).place)
  found_listed slot found free =
      let own : found.node.slot ≡ slot = eqb-true found.node.slot slot found.passes in
      let at : At = at_found (has_slot slot) found in
      let here : StandsAt slot found.node.state cells at = found_stands (has_slot slot) slot found.node.state found own refl in
      (settled_free found.node.state (not_loose (has_slot slot) found) (sym (state_read cells slot found.node.state at here) ∙ free), sym (place_read cells slot found.node.state at here))

  pub free_at : (slot : ℕ) → (record_at cells.records slot).state ≡ Free → NodeAt (record_at cells.records slot).place slot Listed cells stands.layout
  free_at slot free =
      let none : times slot stands.layout.taken ≡ 0 = ap (times slot) stands.none_taken in
      let found : Located (has_slot slot) stands.layout.areas = located (has_slot slot) stands.layout.areas (omega (arith, stands.represented.chains.once slot, none, ap uses_in free)) in
      let is = found_listed slot found free in
      node_at (has_slot slot) (record_at cells.records slot).place slot Listed found (eqb-true found.node.slot slot found.passes) is.0 is.1

  pub not_live : (place slot : ℕ) → ((record_at cells.records slot).state ≡ Live → (record_at cells.records slot).place ≢ place) → is_live (λ owner. owner == slot) place (blocks_of (content_of cells).pools) ≡ false
  not_live place slot isnt = elim (cases_Bool (is_live (λ owner. owner == slot) place (blocks_of (content_of cells).pools))) [
    | inl live ↦
        let node : NodeAt place slot InUse cells stands.layout = live_at place slot live in
        absurd (isnt (state_read cells slot InUse node.at node.stands) (place_read cells slot InUse node.at node.stands ∙ node.place_is))
    | inr none ↦ none
  ]

  -- what stands after the block was freed, and for what
  pub freed_stands : (place slot : ℕ) (new : Cells) (node : NodeAt place slot InUse cells stands.layout) → is_live (λ owner. owner == slot) place (blocks_of (content_of cells).pools) ≡ true
      → StandsAt (at_freed node.at).node.slot Listed new (at_freed node.at) → Stands new × (content_of new ≡ after_free place (content_of cells))
  freed_stands place slot new node live after =
      let at : At = record node.at { node = turned InUse node.at.node } in
      let loose : Node → Bool = λ n. is_loose n.state in
      let others = node.stands.1.others_settled in
      let is : content_by (layout_at (at_freed node.at)) ≡ after_free place (content_of cells) =
      ap (λ s. content_by (layout_at (at_freed (record node.at { node = turned s node.at.node })))) node.stands.1.node_state_is
      ∙ freed_is at.position at.node at.nodes at.lists (node_agrees_once cells stands place slot InUse node) at.count at.taken at.taken refl (omega (arith, others, count-filled loose at.position at.nodes)) (omega (arith, others, count-filled loose at.position at.nodes)) (node_good cells stands place slot InUse node)
      ∙ ap (λ p. after_free p (content_by (layout_at at))) node.place_is
      ∙ ap (after_free place) (sym (node_stood cells stands place slot InUse node)) in
      stands_with new (at_freed node.at).node.slot Listed (at_freed node.at) (after_free place (content_of cells)) after refl (node_taken cells stands place slot InUse node) is
      (freed_is_good (λ owner. owner == slot) place (content_of cells) (content_is_good cells stands) live)
