use Rattle.std.proofs.Common.{rules, ◌≡◌, ℕ, ◌+◌, ◌-◌, sym, ◌∙◌, arith}
use Rattle.tlsf_heap.specs.Cursors.{slot_for}
use Rattle.tlsf_heap.specs.Inner.Entries.{entries_of}
use Rattle.tlsf_heap.proofs.Inner.RowsRead.{in_order, narrowed_found, first_rows, first_stands_so, no_rows}
use Rattle.tlsf_heap.proofs.readings.first.Goals as goal
use Rattle.tlsf_heap.proofs.readings.first.Goals.{After-first_if}

pub skip-place-requires-clause-in_order : goal.skip-place-requires-clause-in_order
skip-place-requires-clause-in_order c = in_order c.args.store.now.cells c.requires c.args.base

pub skip-place-requires-2-clause-in_order : goal.skip-place-requires-2-clause-in_order
skip-place-requires-2-clause-in_order c = rw c.skip-place.ensures.left.cells (in_order c.args.store.now.cells c.requires c.args.base)

pub skip-place-requires-3-clause-in_order : goal.skip-place-requires-3-clause-in_order
skip-place-requires-3-clause-in_order c = rw (c.skip-place-2.ensures.left.cells, c.skip-place.ensures.left.cells) (in_order c.args.store.now.cells c.requires c.args.base)

-- the first block of the pool, as it was found
found : (c : After-first_if) → slot_for c.args.base (entries_of c.args.store.now.cells.pools) ≡ c.first_if.result
found c =
    let place : ℕ = c.skip-place-3.result in
    let last : place + 1 - 1 ≡ place = omega arith in
    let narrowed = rw (c.skip-place-2.ensures.left.cells, c.skip-place.ensures.left.cells, last) at c.skip-place-3.ensures.narrowed in
    sym (rw (c.first_if.ensures, c.pool.ensures.value, c.skip-place-3.ensures.left.cells, c.skip-place-2.ensures.left.cells, c.skip-place.ensures.left.cells)
    (narrowed_found c.args.store.now.cells c.requires c.args.base place (omega (arith, c.skip-place.ensures.within, c.skip-place-2.ensures.within, c.skip-place-3.ensures.within)) narrowed))

pub returns-in-Some-clause-found : goal.returns-in-Some-clause-found
returns-in-Some-clause-found c =
    let is = found (goal.at.returns-in-Some-clause-found c).After-first_if ∙ c.in-Some.is in
    record {
      ok = rw (c.from.ensures, c.slot.view_is) (first_rows c.args.store.now.cells c.requires c.args.base c.in-Some.slot is);
      stands = rw (c.from.ensures, c.slot.view_is) (first_stands_so c.args.store.now.cells c.requires c.args.base c.in-Some.slot is);
      refused = search rules;
    }

pub returns-in-None-clause-found : goal.returns-in-None-clause-found
returns-in-None-clause-found c = record {
  ok = search rules;
  stands = search rules;
  refused = no_rows c.args.store.now.cells c.requires c.args.base (found (goal.at.returns-in-None-clause-found c).After-first_if ∙ c.in-None.is);
}
