-- All eight entries are written.
use Rattle.std.proofs.Common.{◌≡◌, ◌∙◌, ap, arith, None}
use Rattle.std.proofs.lemmas.List.{ext_get_or}
use Rattle.tlsf_heap.specs.Images.Image.{Sections}
use Rattle.tlsf_heap.specs.Inner.Loading.{with_pools}
use Rattle.tlsf_heap.proofs.load.fill_pools.Goals as goal

pub returns-clause-cells : goal.returns-clause-cells
returns-clause-cells g c =
    let sections : Sections = g.T.HasSections.sections c.args.table.now in
    let all = c.loop-number.invariant in
    let last = c.loop-number-test.false in
    let same : c.loop-number.store.cells.pools ≡ sections.pools =
    ext_get_or None c.loop-number.store.cells.pools sections.pools (omega (arith, all.count, all.whole (omega (arith, last)))) (λ k within. all.done k (omega (arith, within, all.count, last))) in
    all.others ∙ ap (λ pools. with_pools pools c.args.store.now.cells) same
