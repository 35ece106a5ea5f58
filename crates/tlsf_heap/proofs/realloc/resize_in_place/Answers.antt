-- The merged block is cut where the bytes end.
use Rattle.std.proofs.Common.{◌≡◌, ◌∙◌, arith, ap}
use Rattle.tlsf_store.specs.Cells.{Cells}
use Rattle.tlsf_store.specs.Records.{record_at}
use Rattle.tlsf_heap.specs.Realloc.{resized}
use Rattle.tlsf_heap.specs.Inner.Following.{Stands, content_of}
use Rattle.tlsf_heap.specs.Inner.Nodes.{InUse}
use Rattle.tlsf_heap.specs.Inner.At.{next_merged}
use Rattle.tlsf_heap.proofs.Inner.Steps.{size_read}
use Rattle.tlsf_heap.proofs.Inner.Live.{live_at}
use Rattle.tlsf_heap.proofs.Inner.Resizing.{merged_holds, resized_stands}
use Rattle.tlsf_heap.proofs.realloc.resize_in_place.Goals as goal

pub merge_next-grown-requires-clause-stands : goal.merge_next-grown-requires-clause-stands
merge_next-grown-requires-clause-stands c =
    let by = live_at c.args.store.now.cells c.requires.stands c.args.block.place c.args.block.slot c.requires.live in
    (by.at, by.stands)

pub split_rest-requires-clause-stands : goal.split_rest-requires-clause-stands
split_rest-requires-clause-stands c =
    let by = live_at c.args.store.now.cells c.requires.stands c.args.block.place c.args.block.slot c.requires.live in
    (next_merged by.at, rw c.merge_next-grown.ensures.slot (c.merge_next-grown.ensures.leads by.at by.stands))

pub split_rest-requires-clause-most : goal.split_rest-requires-clause-most
split_rest-requires-clause-most c =
    let old : Cells = c.args.store.now.cells in
    let by = live_at old c.requires.stands c.args.block.place c.args.block.slot c.requires.live in
    let after = c.merge_next-grown.ensures.leads by.at by.stands in
    let size = c.merge_next-grown.ensures.read.size ∙ ap (λ q. (record_at c.merge_next-grown.new.store.cells.records q).size) c.merge_next-grown.ensures.slot ∙ size_read c.merge_next-grown.new.store.cells c.args.block.slot InUse (next_merged by.at) after in
    omega (arith, size, (merged_holds old c.requires.stands c.args.block.place c.args.block.slot by c.merge_next-grown.new.store.cells c.args.asked c.requires.fits after).0)

pub split_rest-requires-clause-room : goal.split_rest-requires-clause-room
split_rest-requires-clause-room c less =
    let old : Cells = c.args.store.now.cells in
    let by = live_at old c.requires.stands c.args.block.place c.args.block.slot c.requires.live in
    let after = c.merge_next-grown.ensures.leads by.at by.stands in
    let size = c.merge_next-grown.ensures.read.size ∙ ap (λ q. (record_at c.merge_next-grown.new.store.cells.records q).size) c.merge_next-grown.ensures.slot in
    (merged_holds old c.requires.stands c.args.block.place c.args.block.slot by c.merge_next-grown.new.store.cells c.args.asked c.requires.fits after).1 (omega (arith, less, size))

left : (c : goal.After-split_rest) → Stands c.split_rest.new.store.cells × (content_of c.split_rest.new.store.cells ≡ resized c.args.block.slot c.args.block.place c.args.asked (content_of c.args.store.now.cells))
left c =
    let old : Cells = c.args.store.now.cells in
    let by = live_at old c.requires.stands c.args.block.place c.args.block.slot c.requires.live in
    let end = c.split_rest.ensures.leads (next_merged by.at) (rw c.merge_next-grown.ensures.slot (c.merge_next-grown.ensures.leads by.at by.stands)) in
    resized_stands old c.requires.stands c.args.block.place c.args.block.slot by c.split_rest.new.store.cells c.args.asked end.0 c.requires.live c.requires.fits c.requires.other c.requires.size.positive c.requires.size.in_units (rw c.merge_next-grown.ensures.slot at end.1)

pub returns-clause-stands : goal.returns-clause-stands
returns-clause-stands c = (left c).0

pub returns-clause-content : goal.returns-clause-content
returns-clause-content c = (left c).1
