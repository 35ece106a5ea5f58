-- The area of a number in a layout, and what its first record tells.
use Rattle.std.proofs.Common.{◌≡◌, ℕ, zero, suc, ◌<◌, true, false, ◌&&◌, List, [], ◌∷◌, ◌++◌, length, map, get_or, refl, sym, ap, ◌∙◌, arith, Some}
use Rattle.std.specs.Prelude.{is_none, remove}
use Rattle.tlsf_store.specs.declared.records.Record.{Record}
use Rattle.tlsf_store.specs.Records.{record_at, is_free_state}
use Rattle.tlsf_store.specs.declared.pools.Pool.{Pool as StoredPool}
use Rattle.std.specs.List.{list_all}
use Rattle.std.proofs.lemmas.Bool.{ne_eqb}
use Rattle.tlsf_heap.specs.Content.{Block, is_free}
use Rattle.tlsf_heap.specs.Pools.{is_unused}
use Rattle.tlsf_heap.specs.Inner.Nodes.{NodeState, InUse, Listed, Loose, Node, Area, block_of, pool_of, entries_in}
use Rattle.tlsf_heap.specs.Inner.Positions.{plug}
use Rattle.tlsf_heap.specs.Inner.Represents.{InPool, record_state, pool_views, first_slot, IsChain}

-- one more in front of all
plug-first : {X : Type 0} (front : List X) (x : X) (behind : List X) → plug (front ++ x ∷ []) behind ≡ x ∷ plug front behind
plug-first [] x behind = refl
plug-first (y ∷ front) x behind = plug-first front x (y ∷ behind)

-- the area of a number, with those before it in order, those in front nearest first, and those behind
pub record AreaAt (number : ℕ) (areas : List Area) : Type 0 where
  pub before : List Area
  pub front : List Area
  pub area : Area
  pub behind : List Area
  pub same : (others : List Area) → plug front others ≡ before ++ others
  pub whole : areas ≡ before ++ area ∷ behind
  pub entry_is : (d : StoredPool) → get_or (entries_in areas) number d ≡ area.entry
  pub others : remove (entries_in areas) number ≡ entries_in (plug front behind)

pub area_at : (number : ℕ) (areas : List Area) → number < length areas → AreaAt number areas
area_at number [] within = absurd (omega (arith, within))
area_at zero (area ∷ areas) within = record {
  before = [];
  front = [];
  area = area;
  behind = areas;
  same = λ others. refl;
  whole = refl;
  entry_is = λ d. refl;
  others = refl;
}
area_at (suc number) (first ∷ areas) within =
    let rest : AreaAt number areas = area_at number areas (omega (arith, within)) in
    record {
      before = first ∷ rest.before;
      front = rest.front ++ first ∷ [];
      area = rest.area;
      behind = rest.behind;
      same = (λ others. plug-first rest.front first others ∙ ap (λ areas. first ∷ areas) (rest.same others));
      whole = ap (λ areas. first ∷ areas) rest.whole;
      entry_is = rest.entry_is;
      others = ap (λ entries. first.entry ∷ entries) rest.others ∙ ap entries_in (sym (plug-first rest.front first rest.behind));
    }

state_free : (node_state : NodeState) (node : Node) → (is_free (block_of (record node { state = node_state })) && true) ≡ (is_free_state (record_state node_state) && true)
state_free InUse node = refl
state_free Listed node = refl
state_free Loose node = refl

never_alone : (free : _) → (free && false) ≡ false
never_alone true = refl
never_alone false = refl

-- an area's first node, and what its record tells of the others
pub record FirstNode (records : List Record) (area : Area) : Type 0 where
  pub node : Node
  pub nodes : List Node
  pub whole : area.nodes ≡ node ∷ nodes
  pub slot_is : node.slot ≡ area.entry.first
  pub state_is : (record_at records node.slot).state ≡ record_state node.state
  pub next_is : (record_at records node.slot).next ≡ first_slot nodes
  -- the pool is one free block
  pub unused : is_unused (pool_of area) ≡ (is_free_state (record_at records node.slot).state && is_none (record_at records node.slot).next)

pub first_node : (records : List Record) (area : Area) → IsChain (pool_views records) area → FirstNode records area
first_node records area chain = of area.nodes refl
  where
    of : (nodes : List Node) → area.nodes ≡ nodes → FirstNode records area
    of [] is = absurd (let none = ap first_slot (sym is) ∙ chain.begins in cc)
    of (node ∷ nodes) is =
        let slot : Some node.slot ≡ Some area.entry.first = ap first_slot (sym is) ∙ chain.begins in
        let linked = rw is at chain.linked in
        let state = ap (λ (v : InPool). v.state) linked.0 in
        let next = ap (λ (v : InPool). v.next) linked.0 in
        record {
          node = node;
          nodes = nodes;
          whole = is;
          slot_is = cc;
          state_is = state;
          next_is = next;
          unused = rw (is, state, next) (alone nodes);
        }
      where
        alone : (ns : List Node) → is_unused (pool_of (record area { nodes = node ∷ ns })) ≡ (is_free_state (record_state node.state) && is_none (first_slot ns))
        alone [] = state_free node.state node
        alone (n ∷ ns) =
            let blocks : List (Block ℕ) = map block_of (node ∷ n ∷ ns) in
            ap (λ b. b && list_all is_free blocks) (ne_eqb (length blocks) 1 (λ e. absurd (omega (arith, e)))) ∙ sym (never_alone (is_free_state (record_state node.state)))
