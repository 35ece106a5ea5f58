-- A pool of one block, which is in no list, enters and leaves.
use Rattle.std.proofs.Common.{◌≡◌, ℕ, ◌+◌, ◌≤◌, Bool, false, ◌&&◌, List, [], ◌∷◌, set, refl, sym, ap, ◌∙◌, subst, arith, count_by, inl, inr, None}
use Rattle.std.proofs.lemmas.Bool.{cases_eq, eq-eqb, ne_eqb}
use Rattle.std.proofs.lemmas.List.{length-set}
use Rattle.tlsf_store.specs.declared.records.Record.{Record}
use Rattle.tlsf_store.specs.Records.{blank, record_at}
use Rattle.tlsf_store.specs.Cells.{Cells, with_record}
use Rattle.tlsf_store.proofs.RecordLaws.{record_at-set_same, record_at-set_other}
use Rattle.tlsf_store.specs.declared.pools.Pool.{Pool as StoredPool}
use Rattle.tlsf_heap.specs.Good.{times}
use Rattle.tlsf_heap.specs.Inner.Nodes.{Node, Area, has_slot, nodes_of, nodes_in, is_listed_state, is_listed_in, pool_node, area_of_one, entries_in}
use Rattle.tlsf_heap.specs.Inner.Positions.{plug, Position}
use Rattle.tlsf_heap.specs.Inner.Represents.{pool_view, list_view, pool_views, list_views, IsChain, uses_in, Represents}
use Rattle.tlsf_heap.proofs.Counts.{one_if, count-cons}
use Rattle.tlsf_heap.proofs.Inner.Plugs.{all_parts, all_plugged, count-nodes, count-nodes-plug}
use Rattle.tlsf_heap.proofs.Content.FreeLists.{times-cons}
use Rattle.tlsf_heap.proofs.Inner.Chains.{uses_most, used_below, chains_same, unlisted, unlisted_nowhere, index_same, listed_within, AtNode, at_node}
use Rattle.tlsf_heap.proofs.Inner.Taken.{counted_apart}
use Rattle.tlsf_class.specs.Classes.{class}
use Rattle.tlsf_store.specs.declared.records.State.TheVariants.{Free}
use Rattle.tlsf_heap.specs.Pools.{inserted}
use Rattle.tlsf_heap.specs.Inner.Edits.{linked}
use Rattle.tlsf_heap.specs.Inner.Entries.{entries_of, with_entries}

-- the entries in order of base, with this one among them
abbrev pub with_entry : StoredPool → List StoredPool → List StoredPool
with_entry entry entries = inserted (λ e. e.base) entry entries

-- the record of a free block without neighbours
abbrev pub free_record : ℕ → ℕ → Record
free_record place size = record { place = place; size = size; state = Free; prev = None; next = None; prev_free = None; next_free = None }

-- these are the entries, and the entry's first slot is of the pool's one free block, which is in no list
abbrev pub pool_put : StoredPool → List StoredPool → Cells → Cells
pool_put entry entries cells = with_entries entries (with_record cells entry.first (free_record entry.base entry.bytes))

-- the entry's pool is one free block, first in its class's list
abbrev pub pool_entered : StoredPool → Cells → Cells
pool_entered entry cells = linked (class entry.bytes) entry.first (pool_put entry (with_entry entry (entries_of cells.pools)) cells)

-- these are the entries, and the slot is vacant
abbrev pub pool_dropped : ℕ → List StoredPool → Cells → Cells
pool_dropped slot entries cells = with_entries entries (with_record cells slot blank)

module _ (cells : Cells) (count : ℕ) (front behind : List Area) (lists : List (List Node)) (entry : StoredPool) (taken : List ℕ)
    (was : Represents cells (record { count = count; areas = plug front behind; lists = lists; taken = entry.first ∷ taken })) where
  abbrev slot : ℕ
  slot = entry.first

  abbrev one : Record
  one = free_record entry.base entry.bytes

  abbrev new : List Record
  new = set cells.records slot one

  own : times slot (slot ∷ taken) ≡ 1 + times slot taken
  own = omega (arith, times-cons slot slot taken, ap one_if (eq-eqb slot slot refl))

  once : (q : ℕ) → count_by (has_slot q) (nodes_of front) + count_by (has_slot q) (nodes_of behind) + times q (slot ∷ taken) ≡ uses_in (record_at cells.records q).state
  once q = omega (arith, was.chains.once q, count-nodes-plug (has_slot q) front behind)

  spare : count_by (has_slot slot) (nodes_of front) + count_by (has_slot slot) (nodes_of behind) + times slot taken ≡ 0
  spare = omega (arith, once slot, own, uses_most (record_at cells.records slot).state)

  others : (q : ℕ) → 1 ≤ count_by (has_slot q) (nodes_of front) + count_by (has_slot q) (nodes_of behind) → record_at new q ≡ record_at cells.records q
  others q h = record_at-set_other cells.records slot q one (counted_apart (λ n. count_by (has_slot n) (nodes_of front) + count_by (has_slot n) (nodes_of behind)) q slot h (omega (arith, spare)))

  here : record_at new slot ≡ one
  here = record_at-set_same cells.records slot one (used_below cells.records slot (omega (arith, once slot, own)))

  in_use : (q : ℕ) → uses_in (record_at new q).state ≡ uses_in (record_at cells.records q).state
  in_use q = elim (cases_eq q slot) [
    | inl at ↦
        let P : ℕ → Type 0 = λ n. uses_in (record_at new n).state ≡ uses_in (record_at cells.records n).state in
        subst P (sym at) (omega (arith, ap (λ (r : Record). uses_in r.state) here, once slot, own, spare))
    | inr apart ↦ ap (λ (r : Record). uses_in r.state) (record_at-set_other cells.records slot q one apart)
  ]

  pub pool_enters : Represents (pool_put entry (entries_in (plug front (area_of_one entry (pool_node entry) ∷ behind))) cells)
      (record { count = count; areas = plug front (area_of_one entry (pool_node entry) ∷ behind); lists = lists; taken = taken })
  pool_enters =
      let node : Node = pool_node entry in
      let area : Area = area_of_one entry node in
      let parts = all_parts (IsChain (pool_views cells.records)) front behind was.chains.chains in
      let counts : (p : Node → Bool) → count_by p (nodes_of (plug front (area ∷ behind))) ≡ count_by p (nodes_of (plug front behind)) + one_if (p node) =
      λ p. omega (arith, count-nodes-plug p front (area ∷ behind), count-nodes-plug p front behind, count-nodes p area behind, count-cons p node []) in
      record {
        count = length-set cells.records slot one ∙ was.count;
        entries = refl;
        chains = record {
          chains = all_plugged (IsChain (pool_views new)) front (area ∷ behind)
              (chains_same (pool_views cells.records) (pool_views new) front (λ q h. ap pool_view (others q (omega (arith, h)))) parts.0) (
                record { begins = refl; linked = (ap pool_view here, tt) },
                chains_same (pool_views cells.records) (pool_views new) behind (λ q h. ap pool_view (others q (omega (arith, h)))) parts.1,
              );
          once = λ q. omega (arith, in_use q, was.chains.once q, counts (has_slot q), times-cons q slot taken);
        };
        index = index_same (list_views cells.records) (list_views new) cells.heads cells.step_words cells.level_word lists
            (λ number q h. ap list_view (others q (omega (arith, h, listed_within (plug front behind) lists was.agree number q, count-nodes-plug (has_slot q) front behind)))) was.index;
        agree = λ number test. omega (arith, was.agree number test, counts (λ other. is_listed_in number other && test other), unlisted number test node refl);
      }

module _ (cells : Cells) (count : ℕ) (front behind : List Area) (lists : List (List Node)) (entry : StoredPool) (node : Node) (taken : List ℕ)
    (was : Represents cells (record { count = count; areas = plug front (area_of_one entry node ∷ behind); lists = lists; taken = taken })) (was_not : is_listed_state node.state ≡ false) where
  abbrev emptied : List Record
  emptied = set cells.records node.slot blank

  abbrev position : Position
  position = record { areas_before = front; entry = entry; before = []; areas_behind = behind }

  at : AtNode cells.records position node [] taken
  at = at_node cells.records position node [] taken was.chains

  rest_same : (q : ℕ) → 1 ≤ count_by (has_slot q) (nodes_of front) + count_by (has_slot q) (nodes_of behind) → record_at emptied q ≡ record_at cells.records q
  rest_same q h = record_at-set_other cells.records node.slot q blank (at.outside_apart q (omega (arith, h)))

  pub pool_leaves : Represents (pool_dropped node.slot (entries_in (plug front behind)) cells) (record { count = count; areas = plug front behind; lists = lists; taken = taken })
  pool_leaves =
      let area : Area = area_of_one entry node in
      let parts = all_parts (IsChain (pool_views cells.records)) front (area ∷ behind) was.chains.chains in
      let counts : (p : Node → Bool) → count_by p (nodes_of (plug front (area ∷ behind))) ≡ count_by p (nodes_of (plug front behind)) + one_if (p node) =
      λ p. omega (arith, count-nodes-plug p front (area ∷ behind), count-nodes-plug p front behind, count-nodes p area behind, count-cons p node []) in
      record {
        count = length-set cells.records node.slot blank ∙ was.count;
        entries = refl;
        chains = record {
          chains = all_plugged (IsChain (pool_views emptied)) front behind
              (chains_same (pool_views cells.records) (pool_views emptied) front (λ q h. ap pool_view (rest_same q (omega (arith, h)))) parts.0)
              (chains_same (pool_views cells.records) (pool_views emptied) behind (λ q h. ap pool_view (rest_same q (omega (arith, h)))) parts.1.1);
          once = λ q. elim (cases_eq q node.slot) [
            | inl here ↦
                let P : ℕ → Type 0 = λ n. count_by (has_slot n) (nodes_of (plug front behind)) + times n taken ≡ uses_in (record_at emptied n).state in
                subst P (sym here) (omega (
                  arith,
                  was.chains.once node.slot,
                  counts (has_slot node.slot),
                  ap one_if (eq-eqb node.slot node.slot refl),
                  at.used,
                  ap (λ (r : Record). uses_in r.state) (record_at-set_same cells.records node.slot blank at.below),
                ))
            | inr apart ↦ omega (arith, was.chains.once q, counts (has_slot q), ap one_if (ne_eqb node.slot q (λ e. apart (sym e))), ap (λ (r : Record). uses_in r.state) (record_at-set_other cells.records node.slot q blank apart))
          ];
        };
        index = index_same (list_views cells.records) (list_views emptied) cells.heads cells.step_words cells.level_word lists
            (λ number q h. ap list_view (record_at-set_other cells.records node.slot q blank
            (counted_apart (λ n. count_by (has_slot n) (nodes_in number lists)) q node.slot h (unlisted_nowhere (pool_views cells.records) position node [] lists taken was.chains was.agree was_not number)))) was.index;
        agree = λ number test. omega (arith, was.agree number test, counts (λ other. is_listed_in number other && test other), unlisted number test node was_not);
      }
