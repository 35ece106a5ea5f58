-- A new store has no heads.
use Rattle.std.proofs.Common.{arith, ◌≡◌, ◌∙◌, sym, ap, subst}
use Rattle.std.proofs.lemmas.Grind.{common_steps}
use Rattle.tlsf_heap.specs.Inner.Loading.{HasHeadsBelow, with_records}
use Rattle.tlsf_heap.proofs.Images.FilledHeads.{none_at_first}
use Rattle.tlsf_heap.proofs.load.stored.Goals as goal

pub fill_heads-requires-clause-empty : goal.fill_heads-requires-clause-empty
fill_heads-requires-clause-empty g c =
    let records = (g.T.HasSections.sections c.args.table.now).records in
    let others = c.take_vacant.new.self.cells.records in
    let taken : c.take_vacant.new.self.cells ≡ with_records others c.in_ok-store.store.cells = grind (arith, common_steps) in
    let heads = (g.T.HasSections.sections c.fill_records.new.table).heads in
    subst (λ cells. HasHeadsBelow heads cells 0 cells) (sym (c.fill_records.ensures.cells ∙ ap (with_records records) (taken ∙ ap (with_records others) c.in_ok-store.ensures.made))) (none_at_first c.count.result records others heads)
