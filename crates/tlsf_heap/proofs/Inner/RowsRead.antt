-- What the readings come to: the pool that begins at a base, and the rows from a block on.
use Rattle.std.proofs.Common.{◌≡◌, ◌≢◌, ℕ, zero, suc, ◌+◌, ◌-◌, ◌<◌, ◌≤◌, Bool, true, false, cond, not, List, [], ◌∷◌, length, map, get_or, refl, sym, ap, ◌∙◌, subst, arith, count_by, Option, Some, None, ◌⊎◌, inl, inr, Ok, Err}
use Rattle.std.specs.Prelude.{⊤, ◌==◌}
use Rattle.std.specs.List.{AllByRecursion, range_with_len}
use Rattle.std.proofs.lemmas.Bool.{cases_Bool, cases_eq, cases_lt, eq-eqb, ne_eqb, eqb-true, ltb-true, ltb-false, lt-ltb, true≢false}
use Rattle.std.proofs.lemmas.List.{length-append, length-map, get_or_past}
use Rattle.std.proofs.lemmas.List.FromFn.{get_or-map-range_with_len, length-range_with_len}
use Rattle.tlsf_store.specs.declared.records.Record.{Record}
use Rattle.tlsf_store.specs.declared.records.State.{State}
use Rattle.tlsf_store.specs.declared.records.State.TheVariants.{Vacant, Free, Live}
use Rattle.tlsf_store.specs.Records.{blank, record_at, is_vacant, is_live_state}
use Rattle.tlsf_store.specs.Cells.{Cells, pool_at, most_pools}
use Rattle.tlsf_store.specs.declared.pools.Pool.{Pool as StoredPool}
use Rattle.tlsf_heap.specs.declared.refusal.Refusal.TheVariants.{NoPool}
use Rattle.tlsf_heap.specs.declared.row.Row.{Row}
use Rattle.tlsf_heap.specs.Content.{Pool, Content, is_free}
use Rattle.tlsf_heap.specs.Good.{times, AreGoodPools}
use Rattle.tlsf_heap.specs.Inner.Edits.{IsUsed}
use Rattle.tlsf_heap.specs.Rows.{row_of, rows_from}
use Rattle.tlsf_heap.specs.Cursors.{rows_at, rows_by, rows_left, stands_at, slot_for, begins_below, slot_if, AreInOrder, IsNarrowed}
use Rattle.tlsf_heap.specs.Inner.Entries.{padded, padded_at, entries_of}
use Rattle.tlsf_heap.proofs.Inner.EntryLists.{padded_at_is, length-padded, entries_of-padded}
use Rattle.tlsf_heap.specs.Inner.Nodes.{Node, Area, Layout, block_of, pool_of, nodes_of, has_slot}
use Rattle.tlsf_heap.specs.Inner.Positions.{Position, filled}
use Rattle.tlsf_heap.specs.Inner.Represents.{InPool, in_pool, pool_views, first_slot, AreLinked, IsChain, AreChains, uses_in, Represents}
use Rattle.tlsf_heap.specs.Inner.Following.{owner_in, follow, block_at, content_of, Stands}
use Rattle.tlsf_heap.proofs.Counts.{count_all}
use Rattle.tlsf_heap.proofs.Inner.Plugs.{count-nodes, count-filled}
use Rattle.tlsf_heap.proofs.Inner.Links.{Some-same, Some≢None, first_stands}
use Rattle.tlsf_heap.proofs.Inner.Chains.{AtNode, at_node, linked_at}
use Rattle.tlsf_heap.proofs.Inner.Followed.{few, follow_linked, blocks_read, stood_for}
use Rattle.tlsf_heap.proofs.Inner.Located.{Located, located}
use Rattle.tlsf_heap.proofs.Inner.Used.{stands_used as slot_used, is_used, node_is_used, next_used}
use Rattle.tlsf_store.proofs.RecordLaws.{used_state}

-- the entries begin at or above a place, each at or above the one before
abbrev Rises : ℕ → List StoredPool → Type 0
Rises from [] = ⊤
Rises from (entry ∷ entries) = (from ≤ entry.base) × Rises entry.base entries

rises : (from low : ℕ) (areas : List Area) → low ≤ from → AreGoodPools from (map pool_of areas) → Rises low (map (λ (a : Area). a.entry) areas)
rises from low [] h g = tt
rises from low (area ∷ areas) h g = (omega (arith, h, g.0), rises (area.entry.base + area.entry.bytes) area.entry.base areas (omega arith) g.2)

module _ (base : ℕ) where
  above_all : (from k : ℕ) (entries : List StoredPool) → Rises from entries → begins_below base (padded_at entries k) ≡ true → from < base
  above_all from k [] r h = absurd (true≢false (sym h))
  above_all from zero (entry ∷ entries) r h = omega (arith, r.0, ltb-true entry.base base h)
  above_all from (suc k) (entry ∷ entries) r h = omega (arith, r.0, above_all entry.base k entries r.1 h)

  in_order_entries : (from j k : ℕ) (entries : List StoredPool) → Rises from entries → j ≤ k → begins_below base (padded_at entries k) ≡ true → begins_below base (padded_at entries j) ≡ true
  in_order_entries from j k [] r le h = absurd (true≢false (sym h))
  in_order_entries from zero zero (entry ∷ entries) r le h = h
  in_order_entries from zero (suc k) (entry ∷ entries) r le h = lt-ltb entry.base base (above_all entry.base k entries r.1 h)
  in_order_entries from (suc j) zero (entry ∷ entries) r le h = absurd (omega (arith, le))
  in_order_entries from (suc j) (suc k) (entry ∷ entries) r le h = in_order_entries entry.base j k entries r.1 (omega (arith, le)) h

  none_above : (from : ℕ) (entries : List StoredPool) → Rises from entries → base < from → slot_for base entries ≡ None
  none_above from [] r h = refl
  none_above from (entry ∷ entries) r h = rw (ne_eqb entry.base base (λ e. absurd (omega (arith, r.0, h, e)))) (none_above entry.base entries r.1 (omega (arith, r.0, h)))

  -- the pool at the place found, if it begins at the base, is the first that does
  found_at : (from place top : ℕ) (entries : List StoredPool) → Rises from entries → length entries ≤ suc top → ((j : ℕ) → j < place → begins_below base (padded_at entries j) ≡ true)
      → (begins_below base (padded_at entries place) ≡ false) ⊎ (place ≡ top) → slot_if base (padded_at entries place) ≡ slot_for base entries
  found_at from place top [] r few below above = refl
  found_at from zero top (entry ∷ entries) r few below above = elim (cases_eq entry.base base) [
    | inl same ↦ rw (eq-eqb entry.base base same) refl
    | inr other ↦ rw (ne_eqb entry.base base other) (sym (elim above [
      | inl not_below ↦ none_above entry.base entries r.1 (omega (arith, other, ltb-false entry.base base not_below))
      | inr at_top ↦ none_left entries (omega (arith, few, at_top))
    ]))
  ]
    where
      none_left : (es : List StoredPool) → length es ≤ 0 → slot_for base es ≡ None
      none_left [] h = refl
      none_left (e ∷ es) h = absurd (omega (arith, h))
  found_at from (suc place) top (entry ∷ entries) r few below above =
      let less : entry.base < base = ltb-true entry.base base (below 0 (omega arith)) in
      let later = found_at entry.base place (top - 1) entries r.1 (omega (arith, few, positive above)) (λ j h. below (suc j) (omega (arith, h))) (lower above) in
      later ∙ sym (ap (λ b. cond b (Some entry.first) (slot_for base entries)) (ne_eqb entry.base base (λ e. absurd (omega (arith, less, e)))))
    where
      positive : (begins_below base (padded_at entries place) ≡ false) ⊎ (suc place ≡ top) → length (entry ∷ entries) ≤ suc (suc (top - 1))
      positive above = omega (arith, few)

      lower : (begins_below base (padded_at entries place) ≡ false) ⊎ (suc place ≡ top) → (begins_below base (padded_at entries place) ≡ false) ⊎ (place ≡ top - 1)
      lower (inl h) = inl h
      lower (inr h) = inr (omega (arith, h))

-- the rows of all slots, at one of them
rows_get : (records : List Record) (slot : ℕ) → get_or (rows_by records) slot [] ≡ rows_at records slot
rows_get records slot = elim (cases_lt slot (length records)) [
  | inl within ↦ get_or-map-range_with_len (rows_at records) 0 (length records) slot slot [] within (omega arith)
  | inr past ↦
      get_or_past (rows_by records) slot [] (omega (arith, past, length-map {A = ℕ} {B = List Row} (range_with_len 0 (length records)) (rows_at records), length-range_with_len 0 (length records)))
      ∙ sym (ap (λ (r : Record). cond (is_vacant r.state) [] (map (λ q. row_of (block_at records q)) (follow (length records) (λ q. (record_at records q).next) (Some slot)))) (get_or_past records slot blank past))
]

module _ (records : List Record) where
  abbrev row_at : ℕ → Row
  row_at q = row_of (block_at records q)

  abbrev fore : ℕ → Option ℕ
  fore q = (record_at records q).next

  rows_used : (slot : ℕ) → (record_at records slot).state ≢ Vacant → rows_left (rows_by records) (Some slot) ≡ map row_at (follow (length records) fore (Some slot))
  rows_used slot used = rows_get records slot ∙ ap (λ b. cond b [] (map row_at (follow (length records) fore (Some slot)))) (used_state (record_at records slot).state used)

  rows_map : (slots : List ℕ) → map row_of (map (block_at records) slots) ≡ map row_at slots
  rows_map [] = refl
  rows_map (s ∷ slots) = ap (λ rs. row_at s ∷ rs) (rows_map slots)

  not_empty : (n slot : ℕ) → 0 < n → map row_at (follow n fore (Some slot)) ≢ []
  not_empty zero slot h = absurd (omega (arith, h))
  not_empty (suc n) slot h = λ e. absurd (cc)

  -- from the first of linked nodes on, the rows are theirs
  rows_linked : (before : Option ℕ) (node : Node) (nodes : List Node) → length (node ∷ nodes) ≤ length records → AreLinked in_pool (pool_views records) before (node ∷ nodes) → (record_at records node.slot).state ≢ Vacant
      → rows_left (rows_by records) (Some node.slot) ≡ map row_at (map (λ n. n.slot) (node ∷ nodes))
  rows_linked before node nodes fits l used =
      rows_used node.slot used ∙ ap (map row_at) (follow_linked in_pool (pool_views records) (λ v. v.next) (λ prev n after. refl) (length records) before (node ∷ nodes) fits l)

module _ (cells : Cells) (stands : Stands cells) where
  abbrev entries : List StoredPool
  entries = map (λ (a : Area). a.entry) stands.layout.areas

  ascending : Rises 0 entries
  ascending = rises 0 0 stands.layout.areas (omega arith) stands.good.pools_good

  pub few_entries : length entries ≤ most_pools
  few_entries = omega (arith, length-map {A = Area} {B = StoredPool} stands.layout.areas (λ a. a.entry), length-map {A = Area} {B = Pool ℕ} stands.layout.areas pool_of, stands.good.pools_few)

  pub entries_are : entries_of cells.pools ≡ entries
  entries_are = ap entries_of stands.represented.entries ∙ entries_of-padded entries

  pub entry_at : (k : ℕ) → k < most_pools → pool_at cells.pools k ≡ padded_at entries k
  entry_at k within = ap (λ ps. pool_at ps k) stands.represented.entries ∙ sym (padded_at_is entries k within)

  none_past : (k : ℕ) → most_pools ≤ k → pool_at cells.pools k ≡ None
  none_past k past = ap (λ ps. pool_at ps k) stands.represented.entries ∙ get_or_past (padded entries) k None (omega (arith, past, length-padded entries few_entries))

  pub in_order : (base : ℕ) → AreInOrder base cells.pools
  in_order base j k le h = elim (cases_lt k most_pools) [
    | inl within ↦
        ap (begins_below base) (entry_at j (omega (arith, le, within)))
        ∙ in_order_entries base 0 j k entries ascending le (ap (begins_below base) (sym (entry_at k within)) ∙ h)
    | inr past ↦ absurd (true≢false (sym h ∙ ap (begins_below base) (none_past k past)))
  ]

  -- what is left once only one pool can be it
  pub narrowed_found : (base place : ℕ) → place < most_pools → IsNarrowed base cells.pools place place → slot_if base (pool_at cells.pools place) ≡ slot_for base (entries_of cells.pools)
  narrowed_found base place within narrowed =
      ap (slot_if base) (entry_at place within)
      ∙ found_at base 0 place 7 entries ascending (omega (arith, few_entries))
      (λ j h. ap (begins_below base) (sym (entry_at j (omega (arith, h, within)))) ∙ narrowed.below j h)
      (elim narrowed.above [ inl h ↦ inl (ap (begins_below base) (sym (entry_at place within)) ∙ h) | inr h ↦ inr h ])
      ∙ sym (ap (slot_for base) entries_are)

  -- a slot in use is of a node, at its position
  record OfNode (slot : ℕ) : Type 0 where
    position : Position
    node : Node
    nodes : List Node
    slot_is : node.slot ≡ slot
    was : Represents cells (record stands.layout { areas = filled position (node ∷ nodes) })
    fits : length (node ∷ nodes) ≤ length cells.records

  of_node : (slot : ℕ) → 1 ≤ uses_in (record_at cells.records slot).state → OfNode slot
  of_node slot used =
      let none : times slot stands.layout.taken ≡ 0 = ap (times slot) stands.none_taken in
      let found : Located (has_slot slot) stands.layout.areas = located (has_slot slot) stands.layout.areas (omega (arith, stands.represented.chains.once slot, none, used)) in
      let P : Layout → Type 0 = λ l. Represents cells l in
      let was = subst P (ap (λ areas. record stands.layout { areas = areas }) found.whole) stands.represented in
      let all : Node → Bool = λ n. true in
      record {
        position = found.position;
        node = found.node;
        nodes = found.nodes;
        slot_is = eqb-true found.node.slot slot found.passes;
        was = was;
        fits = omega (
          arith,
          few cells stands.layout stands.represented,
          count_all (nodes_of stands.layout.areas),
          ap (λ areas. count_by all (nodes_of areas)) found.whole,
          count-filled all found.position (found.node ∷ found.nodes),
          count_all (found.node ∷ found.nodes),
        );
      }

  used_one : (s : State) → s ≢ Vacant → 1 ≤ uses_in s
  used_one Vacant used = absurd (used refl)
  used_one Free used = omega arith
  used_one Live used = omega arith

  -- the rows behind a node are those of the nodes behind it
  rows_behind : (position : Position) (node : Node) (nodes : List Node) → AreChains (pool_views cells.records) (filled position (node ∷ nodes)) stands.layout.taken → length nodes ≤ length cells.records
      → rows_left (rows_by cells.records) (first_slot nodes) ≡ map (row_at cells.records) (map (λ n. n.slot) nodes)
  rows_behind position node [] was fits = refl
  rows_behind position node (next ∷ nodes) was fits =
      let beyond : Position = record position { before = node ∷ position.before } in
      let here : AtNode cells.records beyond next nodes stands.layout.taken = at_node cells.records beyond next nodes stands.layout.taken was in
      rows_linked cells.records (Some node.slot) next nodes fits (linked_at (pool_views cells.records) beyond (next ∷ nodes) stands.layout.taken was) (node_is_used cells.records beyond next nodes stands.layout.taken here).1

  -- the rows from a slot on are its own and those behind it
  pub row_then_rest : (slot : ℕ) → IsUsed cells.records (Some slot) → rows_left (rows_by cells.records) (Some slot) ≡ row_at cells.records slot ∷ rows_left (rows_by cells.records) (record_at cells.records slot).next
  row_then_rest slot used =
      let of : OfNode slot = of_node slot (used_one (record_at cells.records slot).state used.1) in
      let here : AtNode cells.records of.position of.node of.nodes stands.layout.taken = at_node cells.records of.position of.node of.nodes stands.layout.taken of.was.chains in
      let rows = rows_linked cells.records (first_slot of.position.before) of.node of.nodes of.fits (linked_at (pool_views cells.records) of.position (of.node ∷ of.nodes) stands.layout.taken of.was.chains)
      (node_is_used cells.records of.position of.node of.nodes stands.layout.taken here).1 in
      let behind = rows_behind of.position of.node of.nodes of.was.chains (omega (arith, of.fits)) in
      let next : first_slot of.nodes ≡ (record_at cells.records of.node.slot).next = sym (ap (λ (v : InPool). v.next) here.says) in
      let P : ℕ → Type 0 = λ q. rows_left (rows_by cells.records) (Some q) ≡ row_at cells.records q ∷ rows_left (rows_by cells.records) (record_at cells.records q).next in
      subst P of.slot_is (rows ∙ ap (λ rs. row_at cells.records of.node.slot ∷ rs) (sym behind) ∙ ap (λ o. row_at cells.records of.node.slot ∷ rows_left (rows_by cells.records) o) next)

  used_stands : (o : Option ℕ) → IsUsed cells.records o → stands_at (rows_by cells.records) o
  used_stands None used = tt
  used_stands (Some slot) used = λ e. not_empty cells.records (length cells.records) slot (omega (arith, used.0)) (sym (rows_used cells.records slot used.1) ∙ e)

  pub rest_stands : (slot : ℕ) → IsUsed cells.records (Some slot) → stands_at (rows_by cells.records) (record_at cells.records slot).next
  rest_stands slot used =
      let of : OfNode slot = of_node slot (used_one (record_at cells.records slot).state used.1) in
      let P : ℕ → Type 0 = λ q. stands_at (rows_by cells.records) (record_at cells.records q).next in
      subst P of.slot_is (used_stands (record_at cells.records of.node.slot).next
      (next_used cells.records of.position of.node of.nodes stands.layout.taken (at_node cells.records of.position of.node of.nodes stands.layout.taken of.was.chains)))

  -- where rows stand from a slot on, it is in use
  pub stands_used : (slot : ℕ) → stands_at (rows_by cells.records) (Some slot) → IsUsed cells.records (Some slot)
  stands_used slot rows =
      let used : (record_at cells.records slot).state ≢ Vacant = λ v.
      absurd (rows (rows_get cells.records slot ∙ ap (λ s. cond (is_vacant s) [] (map (row_at cells.records) (follow (length cells.records) (fore cells.records) (Some slot)))) v)) in
      is_used cells.records slot (used_one (record_at cells.records slot).state used)

  -- the rows of the pool found
  rows_found : (areas : List Area) (base slot : ℕ) → AllByRecursion (IsChain (pool_views cells.records)) areas → length (nodes_of areas) ≤ length cells.records → slot_for base (map (λ (a : Area). a.entry) areas) ≡ Some slot
      → (rows_from base (map pool_of areas) ≡ Ok (map (row_at cells.records) (follow (length cells.records) (fore cells.records) (Some slot)))) × (1 ≤ count_by (has_slot slot) (nodes_of areas))
  rows_found [] base slot c fits is = absurd (Some≢None slot (sym is))
  rows_found (area ∷ areas) base slot c fits is =
      let both = length-append area.nodes (nodes_of areas) in
      let counts = count-nodes (has_slot slot) area areas in
      elim (cases_Bool (area.entry.base == base)) [
        | inl here ↦
            let first : area.entry.first ≡ slot = Some-same area.entry.first slot (sym (ap (λ b. cond b (Some area.entry.first) (slot_for base (map (λ (a : Area). a.entry) areas))) here) ∙ is) in
            let begins : first_slot area.nodes ≡ Some slot = c.0.begins ∙ ap Some first in
            let slots = follow_linked in_pool (pool_views cells.records) (λ v. v.next) (λ prev n after. refl) (length cells.records) None area.nodes (omega (arith, fits, both)) c.0.linked in
            let rows = ap (map row_of) (sym (blocks_read cells.records None area.nodes c.0.linked)) ∙ rows_map cells.records (map (λ n. n.slot) area.nodes) in (
              ap (λ b. cond b (Ok (map row_of (map block_of area.nodes))) (rows_from base (map pool_of areas))) here
                  ∙ ap Ok (rows ∙ ap (map (row_at cells.records)) (sym slots) ∙ ap (λ o. map (row_at cells.records) (follow (length cells.records) (fore cells.records) o)) begins),
              omega (arith, first_stands area.nodes slot begins, counts),
            )
        | inr later ↦
            let rest = rows_found areas base slot c.1 (omega (arith, fits, both)) (sym (ap (λ b. cond b (Some area.entry.first) (slot_for base (map (λ (a : Area). a.entry) areas))) later) ∙ is) in (
              ap (λ b. cond b (Ok (map row_of (map block_of area.nodes))) (rows_from base (map pool_of areas))) later ∙ rest.0,
              omega (arith, rest.1, counts),
            )
      ]

  rows_none : (areas : List Area) (base : ℕ) → slot_for base (map (λ (a : Area). a.entry) areas) ≡ None → rows_from base (map pool_of areas) ≡ Err NoPool
  rows_none [] base is = refl
  rows_none (area ∷ areas) base is = elim (cases_Bool (area.entry.base == base)) [
    | inl here ↦ absurd (Some≢None area.entry.first (sym (ap (λ b. cond b (Some area.entry.first) (slot_for base (map (λ (a : Area). a.entry) areas))) here) ∙ is))
    | inr later ↦
        ap (λ b. cond b (Ok (map row_of (map block_of area.nodes))) (rows_from base (map pool_of areas))) later
        ∙ rows_none areas base (sym (ap (λ b. cond b (Some area.entry.first) (slot_for base (map (λ (a : Area). a.entry) areas))) later) ∙ is)
  ]

  first_found : (base slot : ℕ) → slot_for base (entries_of cells.pools) ≡ Some slot
      → (rows_from base (map pool_of stands.layout.areas) ≡ Ok (map (row_at cells.records) (follow (length cells.records) (fore cells.records) (Some slot)))) × (1 ≤ count_by (has_slot slot) (nodes_of stands.layout.areas))
  first_found base slot is = rows_found stands.layout.areas base slot stands.represented.chains.chains (few cells stands.layout stands.represented) (sym (ap (slot_for base) entries_are) ∙ is)

  first_used : (base slot : ℕ) → slot_for base (entries_of cells.pools) ≡ Some slot → IsUsed cells.records (Some slot)
  first_used base slot is = slot_used cells stands.layout slot stands.represented (omega (arith, (first_found base slot is).1))

  pub first_rows : (base slot : ℕ) → slot_for base (entries_of cells.pools) ≡ Some slot → rows_from base (content_of cells).pools ≡ Ok (rows_left (rows_by cells.records) (Some slot))
  first_rows base slot is =
      ap (λ (x : Content ℕ). rows_from base x.pools) (stood_for cells stands) ∙ (first_found base slot is).0 ∙ ap Ok (sym (rows_used cells.records slot (first_used base slot is).1))

  pub no_rows : (base : ℕ) → slot_for base (entries_of cells.pools) ≡ None → rows_from base (content_of cells).pools ≡ Err NoPool
  no_rows base is = ap (λ (x : Content ℕ). rows_from base x.pools) (stood_for cells stands) ∙ rows_none stands.layout.areas base (sym (ap (slot_for base) entries_are) ∙ is)

  pub first_stands_so : (base slot : ℕ) → slot_for base (entries_of cells.pools) ≡ Some slot → stands_at (rows_by cells.records) (Some slot)
  first_stands_so base slot is = used_stands (Some slot) (first_used base slot is)

pub live_is_used : (s : State) (slot : ℕ) (place size : ℕ) → not (is_free (record { place = place; size = size; owner = owner_in s slot })) ≡ is_live_state s
live_is_used Vacant slot place size = refl
live_is_used Free slot place size = refl
live_is_used Live slot place size = refl

-- behind the table stands nothing
pub past_rest : (records : List Record) (slot : ℕ) → length records ≤ slot → rows_left (rows_by records) (Some slot) ≡ []
past_rest records slot past =
    get_or_past (rows_by records) slot [] (omega (arith, past, length-map {A = ℕ} {B = List Row} (range_with_len 0 (length records)) (rows_at records), length-range_with_len 0 (length records)))
