-- What is known of a node of cells that stand: what its record says, and that its block is whole.
use Rattle.std.proofs.Common.{◌≡◌, ℕ, ◌<◌, ◌≤◌, Bool, true, false, ◌&&◌, eqb, List, [], ◌∷◌, length, map, refl, sym, ap, ◌∙◌, subst, arith, count_by, Option, inl, inr}
use Rattle.std.proofs.lemmas.Bool.{cases_lt, and_parts, and_from, eqb-true, eq-eqb, both_ways}
use Rattle.tlsf_class.specs.Classes.{class}
use Rattle.tlsf_store.specs.declared.records.State.TheVariants.{Free}
use Rattle.tlsf_store.specs.declared.records.Record.{Record}
use Rattle.tlsf_store.specs.Records.{record_at, IsBelow}
use Rattle.tlsf_store.specs.Cells.{Cells}
use Rattle.tlsf_heap.specs.Good.{times}
use Rattle.tlsf_heap.specs.Inner.Nodes.{NodeState, InUse, Listed, Loose, Node, Area, block_of, pool_of, nodes_of, nodes_in, has_slot, is_listed_state, is_listed_in}
use Rattle.tlsf_heap.specs.Inner.Positions.{Position, filled, is_loose}
use Rattle.tlsf_heap.specs.Inner.Represents.{InPool, in_pool, pool_views, record_state, first_slot, uses_in, AreChains}
use Rattle.tlsf_heap.specs.Inner.At.{AreCovered}
use Rattle.tlsf_heap.specs.Inner.Following.{Stands}
use Rattle.tlsf_heap.proofs.Counts.{one_if, count-cons}
use Rattle.tlsf_heap.proofs.Good.MallocIsGood.{IsWholeBlock}
use Rattle.tlsf_heap.proofs.Inner.Plugs.{count-filled}
use Rattle.tlsf_heap.proofs.Inner.Links.{first_stands}
use Rattle.tlsf_heap.proofs.Inner.Chains.{used_below, at_node}
use Rattle.tlsf_heap.proofs.Inner.Located.{Located, located}
use Rattle.tlsf_heap.proofs.Meaning.Covered.{covered_good, node_whole}

-- a node of the areas that passes a test
pub record FoundNode (records : List Record) (areas : List Area) (test : Node → Bool) : Type 0 where
  pub node : Node
  pub passes : test node ≡ true
  pub among : (other : Node → Bool) → other node ≡ true → 1 ≤ count_by other (nodes_of areas)
  pub prev : Option ℕ
  pub next : Option ℕ
  pub says : pool_views records node.slot ≡ in_pool prev node next
  pub prev_below : IsBelow (length records) prev
  pub next_below : IsBelow (length records) next
  pub whole : IsWholeBlock (block_of node)

first_below : (records : List Record) (nodes : List Node) → ((q : ℕ) → 1 ≤ count_by (has_slot q) nodes → q < length records) → IsBelow (length records) (first_slot nodes)
first_below records [] below = tt
first_below records (node ∷ nodes) below = below node.slot (first_stands (node ∷ nodes) node.slot refl)

found_at : (records : List Record) (test : Node → Bool) (position : Position) (node : Node) (nodes : List Node) (taken : List ℕ) → AreChains (pool_views records) (filled position (node ∷ nodes)) taken
    → AreCovered 0 (map pool_of (filled position (node ∷ nodes))) → test node ≡ true → FoundNode records (filled position (node ∷ nodes)) test
found_at records test position node nodes taken chains covered passes =
    let at = at_node records position node nodes taken chains in
    record {
      node = node;
      passes = passes;
      among = λ other is. omega (arith, count-filled other position (node ∷ nodes), count-cons other node nodes, ap one_if is);
      prev = first_slot position.before;
      next = first_slot nodes;
      says = at.says;
      prev_below = first_below records position.before (λ q h. used_below records q (omega (arith, h, at.once q)));
      next_below = first_below records nodes (λ q h. used_below records q (omega (arith, h, at.once q, count-cons (has_slot q) node nodes)));
      whole = node_whole position node nodes covered;
    }

module _ (cells : Cells) (stands : Stands cells) where
  abbrev areas : List Area
  areas = stands.layout.areas

  pub found : (test : Node → Bool) → 1 ≤ count_by test (nodes_of areas) → FoundNode cells.records areas test
  found test some =
      let at : Located test areas = located test areas some in
      let P : List Area → Type 0 = λ others. AreChains (pool_views cells.records) others stands.layout.taken in
      let Q : List Area → Type 0 = λ others. AreCovered 0 (map pool_of others) in
      let R : List Area → Type 0 = λ others. FoundNode cells.records others test in
      subst R (sym at.whole) (found_at cells.records test at.position at.node at.nodes stands.layout.taken (subst P at.whole stands.represented.chains) (subst Q at.whole (covered_good 0 (map pool_of areas) stands.good.pools_good)) at.passes)

  -- a slot in use is a node's
  pub used_stands : (slot : ℕ) → 1 ≤ uses_in (record_at cells.records slot).state → 1 ≤ count_by (has_slot slot) (nodes_of areas)
  used_stands slot used = omega (arith, used, stands.represented.chains.once slot, ap (times slot) stands.none_taken)

  pub stands_used : (slot : ℕ) → 1 ≤ count_by (has_slot slot) (nodes_of areas) → 1 ≤ uses_in (record_at cells.records slot).state
  stands_used slot some = omega (arith, some, stands.represented.chains.once slot)

  pub slot_below : (slot : ℕ) → 1 ≤ count_by (has_slot slot) (nodes_of areas) → slot < length cells.records
  slot_below slot some = used_below cells.records slot (stands_used slot some)

  -- no node is loose
  settled_node : (test : Node → Bool) (at : FoundNode cells.records areas test) → is_loose at.node.state ≡ true → false ≡ true
  settled_node test at loose = absurd (omega (arith, stands.settled, at.among (λ node. is_loose node.state) loose))

  listed_free : (node_state : NodeState) → is_listed_state node_state ≡ true → record_state node_state ≡ Free
  listed_free InUse e = absurd (both_ways false refl e)
  listed_free Listed e = refl
  listed_free Loose e = refl

  free_listed : (node_state : NodeState) → record_state node_state ≡ Free → (is_loose node_state ≡ true → false ≡ true) → is_listed_state node_state ≡ true
  free_listed InUse e settled = absurd (cc)
  free_listed Listed e settled = refl
  free_listed Loose e settled = settled refl

  -- what a record says of a listed slot
  pub record IsListedAt (number slot : ℕ) : Type 0 where
    pub free : (record_at cells.records slot).state ≡ Free
    pub of_class : class (record_at cells.records slot).size ≡ number

  at_listed : (number : ℕ) (test : Node → Bool) (at : FoundNode cells.records areas test) → is_listed_in number at.node ≡ true → IsListedAt number at.node.slot
  at_listed number test at listed =
      let both = and_parts (is_listed_state at.node.state) (eqb (class at.node.size) number) listed in
      record {
        free = ap (λ (v : InPool). v.state) at.says ∙ listed_free at.node.state both.0;
        of_class = ap (λ (v : InPool). class v.size) at.says ∙ eqb-true (class at.node.size) number both.1;
      }

  -- nodes of a class's list whose slots pass a test that fails at each free record of the class
  pub none_strange : (number : ℕ) (test : ℕ → Bool) → ((slot : ℕ) → IsListedAt number slot → test slot ≡ false) → count_by (λ node. test node.slot) (nodes_in number stands.layout.lists) ≡ 0
  none_strange number test fails = elim (cases_lt 0 (count_by (λ (node : Node). test node.slot) (nodes_in number stands.layout.lists))) [
    | inr none ↦ omega (arith, none)
    | inl some ↦
        let both : Node → Bool = λ node. is_listed_in number node && test node.slot in
        let at = found both (omega (arith, some, stands.represented.agree number (λ node. test node.slot))) in
        let parts = and_parts (is_listed_in number at.node) (test at.node.slot) at.passes in
        absurd (both_ways (test at.node.slot) (fails at.node.slot (at_listed number both at parts.0)) parts.1)
  ]

  pub listed_at : (number slot : ℕ) → 1 ≤ count_by (has_slot slot) (nodes_in number stands.layout.lists) → IsListedAt number slot
  listed_at number slot some =
      let both : Node → Bool = λ node. is_listed_in number node && has_slot slot node in
      let at = found both (omega (arith, some, stands.represented.agree number (has_slot slot))) in
      let parts = and_parts (is_listed_in number at.node) (has_slot slot at.node) at.passes in
      let P : ℕ → Type 0 = λ q. IsListedAt number q in
      subst P (eqb-true at.node.slot slot parts.1) (at_listed number both at parts.0)

  -- a free slot stands in the list of its class
  pub free_stands : (slot : ℕ) → (record_at cells.records slot).state ≡ Free → 1 ≤ count_by (has_slot slot) (nodes_in (class (record_at cells.records slot).size) stands.layout.lists)
  free_stands slot free =
      let at = found (has_slot slot) (used_stands slot (let e : 1 ≤ uses_in (record_at cells.records slot).state = omega (arith, ap uses_in free) in e)) in
      let same : at.node.slot ≡ slot = eqb-true at.node.slot slot at.passes in
      let state : record_state at.node.state ≡ Free = sym (ap (λ (v : InPool). v.state) at.says) ∙ ap (λ q. (record_at cells.records q).state) same ∙ free in
      let size : at.node.size ≡ (record_at cells.records slot).size = sym (ap (λ (v : InPool). v.size) at.says) ∙ ap (λ q. (record_at cells.records q).size) same in
      let number = class (record_at cells.records slot).size in
      let listed = free_listed at.node.state state (settled_node (has_slot slot) at) in
      let in_class = and_from (is_listed_state at.node.state) (eqb (class at.node.size) number) listed (eq-eqb (class at.node.size) number (ap class size)) in
      omega (arith, stands.represented.agree number (has_slot slot), at.among (λ node. is_listed_in number node && has_slot slot node) (and_from (is_listed_in number at.node) (has_slot slot at.node) in_class at.passes))
