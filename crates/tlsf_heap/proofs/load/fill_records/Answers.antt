-- All records are written.
use Rattle.std.proofs.Common.{◌≡◌, ◌∙◌, ap, arith}
use Rattle.std.proofs.lemmas.List.{ext_get_or}
use Rattle.tlsf_store.specs.Records.{blank}
use Rattle.tlsf_heap.specs.Images.Image.{Sections}
use Rattle.tlsf_heap.specs.Inner.Loading.{with_records}
use Rattle.tlsf_heap.proofs.load.fill_records.Goals as goal

pub returns-clause-cells : goal.returns-clause-cells
returns-clause-cells g c =
    let sections : Sections = g.T.HasSections.sections c.args.table.now in
    let all = c.loop-number.invariant in
    let same : c.loop-number.store.cells.records ≡ sections.records =
    ext_get_or blank c.loop-number.store.cells.records sections.records all.count (λ k within. all.done k (omega (arith, within, all.count, c.loop-number-test.false, c.count-number-end.ensures.value))) in
    all.others ∙ ap (λ records. with_records records c.args.store.now.cells) same
