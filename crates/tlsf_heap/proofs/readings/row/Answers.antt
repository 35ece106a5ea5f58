-- A record in a chain is a row, and its next the row behind.
use Rattle.std.proofs.Common.{rules, ◌≡◌, ◌∷◌, ap, ◌∙◌, arith, Some}
use Rattle.tlsf_store.specs.declared.records.Record.{Record}
use Rattle.tlsf_store.specs.Records.{record_at}
use Rattle.tlsf_heap.specs.Inner.Edits.{IsUsed}
use Rattle.tlsf_heap.specs.Rows.{row_of}
use Rattle.tlsf_heap.specs.Cursors.{rows_by, rows_left}
use Rattle.tlsf_heap.specs.Inner.Following.{block_at}
use Rattle.tlsf_heap.proofs.Inner.RowsRead.{stands_used, row_then_rest, rest_stands, live_is_used, past_rest}
use Rattle.tlsf_heap.proofs.readings.row.Goals as goal

used : (c : goal.After-slot_number) → IsUsed c.args.store.now.cells.records (Some c.in_ok-next.next)
used c = stands_used c.args.store.now.cells c.requires.stands c.in_ok-next.next (rw c.in_ok-next.was at c.requires.there)

next_is : (c : goal.After-slot_number) → c.slot_number.result ≡ (record_at c.args.store.now.cells.records c.in_ok-next.next).next
next_is c = rw (c.slot_number.ensures, c.read-block.ensures.value)

row_is : (c : goal.After-slot_number) → row_of (block_at c.args.store.now.cells.records c.in_ok-next.next) ≡ record { place = c.read-block.result.place; size = c.read-block.result.size; used = c.is_live.result }
row_is c =
    let r : Record = record_at c.args.store.now.cells.records c.in_ok-next.next in
    rw (c.is_live.ensures, c.read-block.ensures.value) (ap (λ b. record { place = r.place; size = r.size; used = b }) (live_is_used r.state c.in_ok-next.next r.place r.size))

pub returns-clause-given : goal.returns-clause-given
returns-clause-given c = record {
  some = rw (c.in_ok-next.was, next_is c) (row_then_rest c.args.store.now.cells c.requires.stands c.in_ok-next.next (used c)
      ∙ ap (λ row. row ∷ rows_left (rows_by c.args.store.now.cells.records) (record_at c.args.store.now.cells.records c.in_ok-next.next).next) (row_is c));
  next_stands = rw (next_is c) (rest_stands c.args.store.now.cells c.requires.stands c.in_ok-next.next (used c));
  none = search rules;
}

pub returns-then-next-records-clause-given : goal.returns-then-next-records-clause-given
returns-then-next-records-clause-given c = record {
  some = search rules;
  next_stands = search rules;
  none = rw c.in_ok-next.was (past_rest c.args.store.now.cells.records c.in_ok-next.next (omega (arith, c.if-next-records.true, c.records.ensures.value)));
}
