-- The rows of the entry's pool are there, and lie within it.
use Rattle.std.proofs.Common.{◌≡◌, ℕ, ◌<◌, length, map, sym, ap, ◌∙◌, subst, arith, slice_index_or}
use Rattle.std.specs.List.{AllByRecursion}
use Rattle.std.proofs.lemmas.List.{get_or_default}
use Rattle.std.proofs.lemmas.List.Elements.{Contains-get_or}
use Rattle.tlsf_heap.specs.Counted.{Counted, range_of}
use Rattle.tlsf_heap.specs.Cursors.{rows_behind}
use Rattle.tlsf_heap.specs.Rows.{rows_from}
use Rattle.tlsf_c.specs.declared.placed_pool.PlacedPool.{PlacedPool}
use Rattle.tlsf_c.specs.PlacedPools.{AreEntriesOf}
use Rattle.tlsf_c.specs.PlacedRows.{IsRowOf}
use Rattle.tlsf_c.proofs.EntriesMoved.{vacant}
use Rattle.tlsf_c.proofs.EntryRows.{entry_rows, the_rows, never_refused}
use Rattle.tlsf_c.proofs.FewRows.{length_of, rows_few}
use Rattle.tlsf_c.proofs.placed_walk.tlsf_placed_walk.Goals as goal

pub returns-in_default-clause-walked : goal.returns-in_default-clause-walked
returns-in_default-clause-walked c = λ within pool is some.
    let heap = c.args.heap.now in
    let inner = c.heap-inner.result.now in
    let entries = subst (λ (h : Counted). ∥ AreEntriesOf (map range_of h.content.pools) heap.pools ∥₁) (sym c.heap-inner.ensures.value) heap.entries in
    let there : c.args.entry < length heap.pools = omega (arith, within) in
    let rows = entry_rows pool heap.pools inner.content c.keeps_good.ensures.good entries (c.args.entry, there, is) some in
    let place_is : pool.place ≡ c.from.result = ap (λ (p : PlacedPool). p.place) (sym (get_or_default heap.pools c.args.entry vacant pool there ∙ is)) ∙ sym c.from.ensures in
    absurd (never_refused pool inner.content.pools rows c.in_default.field-0 (ap (λ (n : ℕ). rows_from n inner.content.pools) place_is ∙ c.in_default.ensures.found.refused))

pub fill-count-requires-clause-few : goal.fill-count-requires-clause-few
fill-count-requires-clause-few c = omega (arith, ap length_of c.in-Ok.ensures.found.ok, rows_few c.from.result 0 c.heap-inner.result.now.content.pools c.keeps_good.ensures.good.pools_good)

pub fill-count-requires-clause-within : goal.fill-count-requires-clause-within
fill-count-requires-clause-within c =
    let heap = c.args.heap.now in
    let inner = c.heap-inner.result.now in
    let pool : PlacedPool = slice_index_or heap.pools c.args.entry vacant in
    let entries = subst (λ (h : Counted). ∥ AreEntriesOf (map range_of h.content.pools) heap.pools ∥₁) (sym c.heap-inner.ensures.value) heap.entries in
    let rows = entry_rows pool heap.pools inner.content c.keeps_good.ensures.good entries (Contains-get_or heap.pools c.args.entry vacant (omega (arith, c.if-entry-ge8.false))) (omega (arith, c.if-pool-eq0.false)) in
    let told = ap (λ (n : ℕ). rows_from n inner.content.pools) (sym c.from.ensures) ∙ c.in-Ok.ensures.found.ok in
    subst (AllByRecursion (IsRowOf pool)) (the_rows pool inner.content.pools rows (rows_behind c.first.new.self.rows c.in-Ok.cursor) told) rows.within
