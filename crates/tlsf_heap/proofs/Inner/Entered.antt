-- A pool whose slot was taken enters, and its one free block its class's list.
use Rattle.std.proofs.Common.{◌≡◌, ◌≢◌, ℕ, ◌<◌, length, List, [], ◌∷◌, refl, sym, ap, ◌∙◌, subst, arith, Option, Some, None, inl, inr}
use Rattle.std.specs.Prelude.{nat_lt}
use Rattle.std.proofs.lemmas.Bool.{cases_Bool, eq-eqb}
use Rattle.std.proofs.lemmas.List.{length-set}
use Rattle.tlsf_store.specs.declared.records.Record.{Record}
use Rattle.tlsf_store.specs.declared.records.State.TheVariants.{Vacant, Free}
use Rattle.tlsf_store.proofs.RecordLaws.{record_at-set_same}
use Rattle.tlsf_store.specs.Cells.{Cells, with_record, head_at}
use Rattle.tlsf_class.specs.Classes.{class}
use Rattle.tlsf_store.specs.declared.pools.Pool.{Pool as StoredPool}
use Rattle.tlsf_heap.specs.Inner.Edits.{IsUsed, put_first}
use Rattle.tlsf_heap.specs.Inner.Entries.{entries_of, with_entries}
use Rattle.tlsf_heap.specs.Inner.Nodes.{Node, Area, Layout, Listed, turned, entered, pool_node, area_of_one, entries_in, with_area, pool_laid}
use Rattle.tlsf_heap.specs.Inner.Positions.{plug, Position}
use Rattle.tlsf_heap.specs.Inner.Represents.{Represents}
use Rattle.tlsf_heap.proofs.Inner.EntryLists.{entries_of-padded}
use Rattle.tlsf_heap.proofs.Counts.{one_if}
use Rattle.tlsf_heap.proofs.Inserted.{map-inserted}
use Rattle.tlsf_heap.proofs.Content.FreeLists.{times-cons}
use Rattle.tlsf_heap.proofs.Inner.Used.{stands_used, head_used}
use Rattle.tlsf_heap.proofs.Inner.Linked.{linked_laid}
use Rattle.tlsf_heap.proofs.Inner.Written.{edited_written}
use Rattle.tlsf_heap.proofs.Inner.PoolMoves.{pool_enters, with_entry, free_record, pool_entered, pool_put}

-- where the entry's area will stand: the areas in front of it, nearest first, and those behind
pub record Place (entry : StoredPool) (passed areas : List Area) : Type 0 where
  pub front : List Area
  pub behind : List Area
  pub whole : plug passed areas ≡ plug front behind
  pub put : (node : Node) → plug passed (with_area (area_of_one entry node) areas) ≡ plug front (area_of_one entry node ∷ behind)

pub place : (entry : StoredPool) (passed areas : List Area) → Place entry passed areas
place entry passed [] = record { front = passed; behind = []; whole = refl; put = λ node. refl }
place entry passed (other ∷ areas) = elim (cases_Bool (nat_lt entry.base other.entry.base)) [
  | inl before ↦ record { front = passed; behind = other ∷ areas; whole = refl; put = λ node. rw before refl }
  | inr after ↦
      let later : Place entry (other ∷ passed) areas = place entry (other ∷ passed) areas in
      record { front = later.front; behind = later.behind; whole = later.whole; put = λ node. rw after (later.put node) }
]

module _ (cells : Cells) (entry : StoredPool) (layout : Layout) (was : Represents cells (record layout { taken = entry.first ∷ layout.taken })) where
  abbrev at : Place entry [] layout.areas
  at = place entry [] layout.areas

  -- the cells once the pool is there, its block in no list
  abbrev put : Cells
  put = pool_put entry (with_entry entry (entries_of cells.pools)) cells

  taken_used : IsUsed cells.records (Some entry.first)
  taken_used = stands_used cells (record layout { taken = entry.first ∷ layout.taken }) entry.first was (omega (arith, times-cons entry.first entry.first layout.taken, ap one_if (eq-eqb entry.first entry.first refl)))

  entries_are : entries_in (plug at.front (area_of_one entry (pool_node entry) ∷ at.behind)) ≡ with_entry entry (entries_of cells.pools)
  entries_are =
      ap entries_in (sym (at.put (pool_node entry)))
      ∙ map-inserted (λ (area : Area). area.entry) (λ (area : Area). area.entry.base) (λ (other : StoredPool). other.base) (λ area. refl) (area_of_one entry (pool_node entry)) layout.areas
      ∙ ap (with_entry entry) (sym (ap entries_of was.entries ∙ entries_of-padded (entries_in layout.areas)))

  is_put : Represents put (record layout { areas = plug at.front (area_of_one entry (pool_node entry) ∷ at.behind) })
  is_put =
      let P : List Area → Type 0 = λ areas. Represents cells (record layout { areas = areas; taken = entry.first ∷ layout.taken }) in
      let Q : List StoredPool → Type 0 = λ entries. Represents (pool_put entry entries cells) (record layout { areas = plug at.front (area_of_one entry (pool_node entry) ∷ at.behind) }) in
      subst Q entries_are (pool_enters cells layout.count at.front at.behind layout.lists entry layout.taken (subst P at.whole was))

  -- what link needs then
  slot_used : IsUsed put.records (Some entry.first)
  slot_used = (omega (arith, taken_used.0, length-set cells.records entry.first (free_record entry.base entry.bytes)), λ e. absurd (free_isnt (sym (ap (λ (r : Record). r.state) (record_at-set_same cells.records entry.first (free_record entry.base entry.bytes) taken_used.0)) ∙ e)))
    where
      free_isnt : Free ≢ Vacant
      free_isnt = λ e. cc

  first_used : IsUsed put.records (head_at put.heads (class entry.bytes))
  first_used = head_used put (record layout { areas = plug at.front (area_of_one entry (pool_node entry) ∷ at.behind) }) (pool_node entry) is_put

  is_laid : Represents (pool_entered entry cells) (pool_laid entry layout)
  is_laid =
      let position : Position = record { areas_before = at.front; entry = entry; before = []; areas_behind = at.behind } in
      let P : List Area → Type 0 = λ areas. Represents (pool_entered entry cells) (record layout { areas = areas; lists = entered (turned Listed (pool_node entry)) layout.lists }) in
      subst P (sym (at.put (turned Listed (pool_node entry)))) (linked_laid put layout.count position (pool_node entry) [] layout.lists layout.taken is_put)

-- a pool that enters. Once it is put its slot is in use, and so is the head of its class's list. Then it is
-- laid
pub record Enters (entry : StoredPool) (layout : Layout) (cells : Cells) : Type 0 where
  pub slot : IsUsed (pool_put entry (with_entry entry (entries_of cells.pools)) cells).records (Some entry.first)
  pub first : IsUsed (pool_put entry (with_entry entry (entries_of cells.pools)) cells).records (head_at cells.heads (class entry.bytes))
  pub laid : Represents (pool_entered entry cells) (pool_laid entry layout)

pub pool_is_laid : (cells : Cells) (entry : StoredPool) (layout : Layout) → Represents cells (record layout { taken = entry.first ∷ layout.taken }) → Enters entry layout cells
pool_is_laid cells entry layout was = record { slot = slot_used cells entry layout was; first = first_used cells entry layout was; laid = is_laid cells entry layout was }

-- the pool's block is written with its links, and put in front
pub pool_written : (cells : Cells) (entry : StoredPool) → entry.first < length cells.records
    → put_first (class entry.bytes) entry.first (head_at cells.heads (class entry.bytes))
    (with_entries (with_entry entry (entries_of cells.pools)) (with_record cells entry.first (record (free_record entry.base entry.bytes) { next_free = head_at cells.heads (class entry.bytes) }))) ≡ pool_entered entry cells
pool_written cells entry below =
    let first : Option ℕ = head_at cells.heads (class entry.bytes) in
    ap (λ records. put_first (class entry.bytes) entry.first first (with_entries (with_entry entry (entries_of cells.pools)) (record cells { records = records })))
    (sym (edited_written cells.records entry.first (free_record entry.base entry.bytes) (λ r. record r { prev_free = None; next_free = first }) below))
