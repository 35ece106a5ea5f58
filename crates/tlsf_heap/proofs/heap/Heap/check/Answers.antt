-- The words are those of a heap, so each record was touched.
use Rattle.std.proofs.Common.{◌≡◌, ◌∙◌, length, sym, ap, arith}
use Rattle.std.proofs.lemmas.List.{length-map}
use Rattle.tlsf_store.specs.Table.{seen}
use Rattle.tlsf_heap.proofs.Images.Whole.{stand_whole}
use Rattle.tlsf_heap.proofs.Inner.Followed.{records_are}
use Rattle.tlsf_heap.proofs.heap.Heap.check.Goals as goal

pub returns-clause-each_read : goal.returns-clause-each_read
returns-clause-each_read c =
    let words = c.words.result in
    let cells = c.self.inside.store.cells in
    let read = c.is_whole-whole.ensures.each_read (c.is_whole-whole.ensures.exact.1 (stand_whole words cells c.words.ensures.kept c.words.ensures.cells c.self.invariant)) in
    let long : length words.records ≡ length cells.records = sym (length-map words.records seen) ∙ ap (λ v. length v.records) c.words.ensures.cells in
    let records : c.args.self.now.content.records ≡ length cells.records = ap (λ v. v.content.records) (sym c.self.view_is) ∙ records_are cells in
    omega (arith, read, long, records, c.new-touches.ensures, c.add_touches.ensures.left.touches, ap (λ v. v.touches) c.self.view_is)
