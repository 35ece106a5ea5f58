use Rattle.std.proofs.Common.{rules, ◌≡◌, ℕ, ◌<◌, ◌≤◌, Bool, false, ◌∷◌, length, sym, ap, ◌∙◌, arith, Option, Some, Ok}
use Rattle.std.specs.Prelude.{◌==◌}
use Rattle.std.proofs.lemmas.Bool.{eqb-true, eqb-false}
use Rattle.tlsf_store.specs.Records.{blank, record_at}
use Rattle.tlsf_store.specs.Cells.{Cells, with_taken, most_pools}
use Rattle.tlsf_heap.specs.Pools.{add_pool}
use Rattle.tlsf_heap.specs.Inner.Entries.{entries_of}
use Rattle.tlsf_heap.specs.Inner.Represents.{Represents}
use Rattle.tlsf_heap.specs.Inner.Following.{Stands, content_of}
use Rattle.tlsf_heap.proofs.Inner.Taken.{slot_taken}
use Rattle.tlsf_heap.proofs.Inner.Added.{is_allowed, refused_bad, refused_pools, refused_records, pool_added}
use Rattle.tlsf_heap.proofs.add_pool.add_pool.Goals as goal

pub returns-then-not-can_enter : goal.returns-then-not-can_enter
returns-then-not-can_enter c = record {
  stands = search rules;
  ok = search rules;
  refused = let allowed = sym (c.can_enter.ensures ∙ ap (is_allowed c.args.base c.args.bytes) (c.as_slice.ensures.value ∙ c.entries-entries.ensures.value)) in
      refused_bad c.args.store.now.cells c.requires c.args.base c.args.bytes (allowed ∙ c.if-not-can_enter.true);
  cells = search rules;
  touches = search rules;
}

pub returns-then-is_full : goal.returns-then-is_full
returns-then-is_full c = record {
  stands = search rules;
  ok = search rules;
  refused = let allowed = sym (c.can_enter.ensures ∙ ap (is_allowed c.args.base c.args.bytes) (c.as_slice.ensures.value ∙ c.entries-entries.ensures.value)) in
      let full : length c.entries-entries.result.items ≡ most_pools = eqb-true _ _ (sym c.is_full.ensures.value ∙ c.if-is_full.true) in
      refused_pools c.args.store.now.cells c.requires c.args.base c.args.bytes (allowed ∙ c.if-not-can_enter.false) (omega (arith, full, ap length c.entries-entries.ensures.value));
  cells = search rules;
  touches = search rules;
}

few_entries : (full : Bool) (entries entries_old : ℕ) → full ≡ (entries == most_pools) → full ≡ false → entries ≤ most_pools → entries ≡ entries_old → entries_old < most_pools
few_entries full entries entries_old is not_full fits same = omega (arith, eqb-false entries most_pools (sym is ∙ not_full), fits, same)

pub returns-in_default : goal.returns-in_default
returns-in_default c = record {
  stands = search rules;
  ok = search rules;
  refused = let allowed = sym (c.can_enter.ensures ∙ ap (is_allowed c.args.base c.args.bytes) (c.as_slice.ensures.value ∙ c.entries-entries.ensures.value)) in
      let few = few_entries c.is_full.result (length c.entries-entries.result.items) (length (entries_of c.args.store.now.cells.pools)) c.is_full.ensures.value c.if-is_full.false c.is_full.ensures.fits (ap length c.entries-entries.ensures.value) in
      let none = rw (c.in_default.is, c.entries-entries.ensures.left.cells) at c.take_vacant.ensures.none in
      refused_records c.args.store.now.cells c.requires c.args.base c.args.bytes (allowed ∙ c.if-not-can_enter.false) few none;
  cells = search rules;
  touches = search rules;
}

-- the cells and the slot, once it was taken
taken : (old one two : Cells) (result : Option ℕ) (slot : ℕ) (stands : Stands old) → one ≡ old → result ≡ Some slot → two ≡ with_taken one result → slot < length one.records → record_at one.records slot ≡ blank
    → Represents two (record stands.layout { taken = slot ∷ stands.layout.taken }) × (slot < length old.records) × (record_at old.records slot ≡ blank)
taken old one two result slot stands read is took within vacant =
    let below = rw read at within in
    let empty = rw read at vacant in
    (rw (took, is, read) (slot_taken old stands.layout slot stands.represented below empty), below, empty)

pub put_pool-requires-clause-taken : goal.put_pool-requires-clause-taken
put_pool-requires-clause-taken c = (
  c.requires.layout,
  (taken c.args.store.now.cells c.entries-entries.new.store.cells c.take_vacant.new.self.cells c.take_vacant.result c.in-Some.slot c.requires c.entries-entries.ensures.left.cells c.in-Some.is c.take_vacant.ensures.left.cells c.in-Some.ensures.within c.in-Some.ensures.vacant).0,
)

added : (c : goal.After-put_pool) → Stands c.put_pool.new.store.cells × (add_pool c.args.base c.args.bytes (content_of c.args.store.now.cells) ≡ Ok (content_of c.put_pool.new.store.cells))
added c =
    let old : Cells = c.args.store.now.cells in
    let allowed = sym (c.can_enter.ensures ∙ ap (is_allowed c.args.base c.args.bytes) (c.as_slice.ensures.value ∙ c.entries-entries.ensures.value)) ∙ c.if-not-can_enter.false in
    let few = few_entries c.is_full.result (length c.entries-entries.result.items) (length (entries_of old.pools)) c.is_full.ensures.value c.if-is_full.false c.is_full.ensures.fits (ap length c.entries-entries.ensures.value) in
    let at = taken old c.entries-entries.new.store.cells c.take_vacant.new.self.cells c.take_vacant.result c.in-Some.slot c.requires c.entries-entries.ensures.left.cells c.in-Some.is c.take_vacant.ensures.left.cells c.in-Some.ensures.within c.in-Some.ensures.vacant in
    let laid = c.put_pool.ensures.leads c.requires.layout at.0 in
    pool_added old c.requires c.args.base c.args.bytes allowed few c.in-Some.slot at.1 at.2 c.put_pool.new.store.cells laid

pub returns : goal.returns
returns c = record {
  stands = (added c).0;
  ok = (added c).1;
  refused = search rules;
  cells = search rules;
  touches = search rules;
}
