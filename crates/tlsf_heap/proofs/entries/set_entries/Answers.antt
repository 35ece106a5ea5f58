-- The entries written, with none behind them, are the store's.
use Rattle.std.proofs.Common.{rules, ◌≡◌, length, ap, ◌∙◌, arith}
use Rattle.tlsf_store.specs.Cells.{most_pools}
use Rattle.tlsf_heap.proofs.Inner.EntryLists.{padded_at-below, written_is_padded}
use Rattle.tlsf_heap.proofs.entries.set_entries.Goals as goal

pub set_pool-requires-clause-below : goal.set_pool-requires-clause-below
set_pool-requires-clause-below c =
    rw (c.loop-number.invariant.rest, c.pool_at.ensures) (padded_at-below (length c.args.store.now.cells.records) c.args.entries.now c.loop-number.number c.requires.below)

pub returns : goal.returns
returns c = record {
  cells = let end : c.loop-number.number ≡ most_pools = omega (arith, c.loop-number-test.false, c.loop-number.auto.number-end) in
      c.loop-number.invariant.rest
      ∙ ap (λ pools. record c.args.store.now.cells { pools = pools })
      (written_is_padded c.loop-number.store.cells.pools c.args.entries.now c.loop-number.invariant.count c.requires.few
      (λ k within. c.loop-number.invariant.written k (omega (arith, end, within))));
  touches = search rules;
}
