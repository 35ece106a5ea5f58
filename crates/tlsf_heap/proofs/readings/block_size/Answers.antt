-- The record of a live block has its size.
use Rattle.std.proofs.Common.{cond, sym, ap, ◌∙◌, Ok, Err}
use Rattle.tlsf_store.specs.Cells.{Cells}
use Rattle.tlsf_heap.specs.declared.refusal.Refusal.TheVariants.{BadPointer}
use Rattle.tlsf_heap.specs.Content.{blocks_of, size_at}
use Rattle.tlsf_heap.specs.Inner.Following.{content_of}
use Rattle.tlsf_heap.proofs.Inner.Resizing.{size_known}
use Rattle.tlsf_heap.proofs.readings.block_size.Goals as goal

pub returns-clause-ok : goal.returns-clause-ok
returns-clause-ok c =
    let old : Cells = c.args.store.now.cells in
    let live = sym c.in-Some.ensures.value in
    let size = size_known old c.requires c.args.ptr.place c.args.ptr.slot live c.in-Some.block c.in-Some.ensures.read.read in
    ap (λ b. cond b (Ok (size_at c.args.ptr.place (blocks_of (content_of old).pools))) (Err BadPointer)) live ∙ ap (λ n. Ok n) (sym size)
