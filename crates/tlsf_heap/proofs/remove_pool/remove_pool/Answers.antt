use Rattle.std.proofs.Common.{rules, ◌≡◌, ℕ, suc, ◌<◌, ◌&&◌, Bool, true, false, List, take, drop, length, get_or, sym, ap, ◌∙◌, subst, Ok}
use Rattle.std.specs.Prelude.{All, is_none, remove}
use Rattle.std.proofs.lemmas.List.Elements.{All-append, All-take, All-drop}
use Rattle.tlsf_store.specs.declared.records.Record.{Record}
use Rattle.tlsf_store.specs.Records.{record_at, is_free_state}
use Rattle.tlsf_store.specs.Cells.{Cells}
use Rattle.tlsf_store.specs.declared.pools.Pool.{Pool as StoredPool}
use Rattle.tlsf_heap.specs.Pools.{remove_pool}
use Rattle.tlsf_heap.specs.Inner.Entries.{entries_of}
use Rattle.tlsf_heap.specs.Inner.Nodes.{Listed}
use Rattle.tlsf_heap.specs.Inner.At.{At, StandsAt}
use Rattle.tlsf_heap.specs.Inner.Following.{Stands, content_of}
use Rattle.tlsf_heap.proofs.Inner.Removed.{at, entry_at, node_there, stands_there, alone_there, refused_none, refused_used, removed_stands}
use Rattle.tlsf_heap.proofs.remove_pool.remove_pool.Goals as goal

-- the number found, of an entry that begins at the base
abbrev IsNumber : (entries : List StoredPool) (base number : ℕ) → Type 0
IsNumber entries base number = (number < length entries) × ((d : StoredPool) → (get_or entries number d).base ≡ base)

-- what the entry and the record of its first slot tell
record PoolFound (old : Cells) (stands : Stands old) (base number : ℕ) (entry : StoredPool) (block : Record) : Type 0 where
  is : IsNumber (entries_of old.pools) base number
  slot_is : entry.first ≡ (at old stands base number is.0 is.1).area.entry.first
  block_is : block ≡ record_at old.records entry.first

-- the entry read at the number, of the list that the slice is of
entry_is : (number : ℕ) (items now : List StoredPool) (entry : StoredPool) → now ≡ items → entry ≡ get_or now number entry → entry ≡ get_or items number entry
entry_is number items now entry same is = is ∙ ap (λ entries. get_or entries number entry) same

pool_found : (old one : Cells) (stands : Stands old) (base number : ℕ) (items now : List StoredPool) (entry : StoredPool) (block : Record)
    → one ≡ old → items ≡ entries_of old.pools → now ≡ items → IsNumber now base number → entry ≡ get_or items number entry → block ≡ record_at one.records entry.first → PoolFound old stands base number entry block
pool_found old one stands base number items now entry block same items_are now_is is entry_is block_is =
    let number_is : IsNumber (entries_of old.pools) base number = subst (λ entries. IsNumber entries base number) (now_is ∙ items_are) is in
    record {
      is = number_is;
      slot_is = ap (λ (e : StoredPool). e.first) (entry_is ∙ ap (λ entries. get_or entries number entry) items_are ∙ entry_at old stands base number number_is.0 number_is.1 entry);
      block_is = block_is ∙ ap (λ (s : Cells). record_at s.records entry.first) same;
    }

pub returns-in_default : goal.returns-in_default
returns-in_default c = record {
  stands = search rules;
  ok = search rules;
  refused = let P : List StoredPool → Type 0 = λ entries. All (λ entry. entry.base ≡ c.args.base → ⊥) entries in
      refused_none c.args.store.now.cells c.requires c.args.base (subst P (c.as_slice.ensures.value ∙ c.entries-entries.ensures.value) c.in_default.ensures.none);
  cells = search rules;
  touches = search rules;
}

alone_by : (old : Cells) (stands : Stands old) (base number : ℕ) (entry : StoredPool) (block : Record) → PoolFound old stands base number entry block → (result answer : Bool) → result ≡ (is_free_state block.state && is_none block.next) → result ≡ answer
    → (is_free_state (record_at old.records entry.first).state && is_none (record_at old.records entry.first).next) ≡ answer
alone_by old stands base number entry block t result answer is answered = ap (λ (r : Record). is_free_state r.state && is_none r.next) (sym t.block_is) ∙ sym is ∙ answered

pub returns-then-not-is_alone : goal.returns-then-not-is_alone
returns-then-not-is_alone c = record {
  stands = search rules;
  ok = search rules;
  refused = let old : Cells = c.args.store.now.cells in
      let t = pool_found old c.entries-entries.new.store.cells c.requires c.args.base c.in-Some.number c.entries-entries.result.items c.as_slice.result.now c.index-as_slice-number.result c.read-block.result c.entries-entries.ensures.left.cells c.entries-entries.ensures.value c.as_slice.ensures.value c.in-Some.ensures.found (entry_is c.in-Some.number c.entries-entries.result.items c.as_slice-2.result.now c.index-as_slice-number.result c.as_slice-2.ensures.value c.index-as_slice-number.is) c.read-block.ensures.value in
      refused_used old c.requires c.args.base c.in-Some.number t.is.0 t.is.1 c.index-as_slice-number.result.first t.slot_is
      (alone_by old c.requires c.args.base c.in-Some.number c.index-as_slice-number.result c.read-block.result t c.is_alone.result false c.is_alone.ensures c.if-not-is_alone.true);
  cells = search rules;
  touches = search rules;
}

pub drop_pool-requires-clause-stands : goal.drop_pool-requires-clause-stands
drop_pool-requires-clause-stands c =
    let old : Cells = c.args.store.now.cells in
    let t = pool_found old c.entries-entries.new.store.cells c.requires c.args.base c.in-Some.number c.entries-entries.result.items c.as_slice.result.now c.index-as_slice-number.result c.read-block.result c.entries-entries.ensures.left.cells c.entries-entries.ensures.value c.as_slice.ensures.value c.in-Some.ensures.found (entry_is c.in-Some.number c.entries-entries.result.items c.as_slice-2.result.now c.index-as_slice-number.result c.as_slice-2.ensures.value c.index-as_slice-number.is) c.read-block.ensures.value in
    let unused = alone_by old c.requires c.args.base c.in-Some.number c.index-as_slice-number.result c.read-block.result t c.is_alone.result true c.is_alone.ensures c.if-not-is_alone.false in
    let slot : ℕ = c.index-as_slice-number.result.first in
    let here = stands_there old c.requires c.args.base c.in-Some.number t.is.0 t.is.1 slot t.slot_is unused in
    let node : At = node_there old c.requires c.args.base c.in-Some.number t.is.0 t.is.1 slot t.slot_is unused in
    let P : Cells → Type 0 = λ cells. StandsAt slot Listed cells node in
    (node, subst P (sym (c.read-block.ensures.left.cells ∙ c.entries-entries.ensures.left.cells)) here)

pub drop_pool-requires-clause-below : goal.drop_pool-requires-clause-below
drop_pool-requires-clause-below c =
    let P : StoredPool → Type 0 = λ entry. entry.first < length c.args.store.now.cells.records in
    let items : List StoredPool = c.entries-entries.result.items in
    let n : ℕ = c.in-Some.number in
    rw (c.as_slice-4.ensures.value, c.entries_without-rest.ensures, c.as_slice-3.ensures.value, c.read-block.ensures.left.cells, c.entries-entries.ensures.left.cells)
    (All-append P (take n items) (drop (suc n) items) (All-take P n items c.entries-entries.ensures.below) (All-drop P (suc n) items c.entries-entries.ensures.below))

-- what is left
left : (c : goal.After-drop_pool) → Stands c.drop_pool.new.store.cells × (remove_pool c.args.base (content_of c.args.store.now.cells) ≡ Ok (content_of c.drop_pool.new.store.cells))
left c =
    let old : Cells = c.args.store.now.cells in
    let t = pool_found old c.entries-entries.new.store.cells c.requires c.args.base c.in-Some.number c.entries-entries.result.items c.as_slice.result.now c.index-as_slice-number.result c.read-block.result c.entries-entries.ensures.left.cells c.entries-entries.ensures.value c.as_slice.ensures.value c.in-Some.ensures.found (entry_is c.in-Some.number c.entries-entries.result.items c.as_slice-2.result.now c.index-as_slice-number.result c.as_slice-2.ensures.value c.index-as_slice-number.is) c.read-block.ensures.value in
    let unused = alone_by old c.requires c.args.base c.in-Some.number c.index-as_slice-number.result c.read-block.result t c.is_alone.result true c.is_alone.ensures c.if-not-is_alone.false in
    let slot : ℕ = c.index-as_slice-number.result.first in
    let here = stands_there old c.requires c.args.base c.in-Some.number t.is.0 t.is.1 slot t.slot_is unused in
    let alone = alone_there old c.requires c.args.base c.in-Some.number t.is.0 t.is.1 slot t.slot_is unused in
    let node : At = node_there old c.requires c.args.base c.in-Some.number t.is.0 t.is.1 slot t.slot_is unused in
    let entries = c.as_slice-4.ensures.value ∙ c.entries_without-rest.ensures ∙ ap (λ items. remove items c.in-Some.number) (c.as_slice-3.ensures.value ∙ c.entries-entries.ensures.value) ∙ alone.2 in
    let P : Cells → Type 0 = λ cells. StandsAt slot Listed cells node in
    let now : StandsAt slot Listed c.read-block.new.self.cells node = subst P (sym (c.read-block.ensures.left.cells ∙ c.entries-entries.ensures.left.cells)) here in
    removed_stands old c.requires c.args.base c.in-Some.number t.is.0 t.is.1 slot t.slot_is unused c.drop_pool.new.store.cells (c.drop_pool.ensures.leads node now alone.0 alone.1 entries)

pub returns : goal.returns
returns c = record {
  stands = (left c).0;
  ok = (left c).1;
  refused = search rules;
  cells = search rules;
  touches = search rules;
}
