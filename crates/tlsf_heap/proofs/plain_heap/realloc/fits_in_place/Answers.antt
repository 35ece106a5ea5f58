-- A block and the one behind are within a pool.
use Rattle.std.proofs.Common.{arith}
use Rattle.tlsf_heap.proofs.Plain.Realloc.{both_fit}
use Rattle.tlsf_heap.proofs.plain_heap.realloc.fits_in_place.Goals as goal

pub overflow_add-result : goal.overflow_add-result
overflow_add-result c =
    let few = both_fit c.args.ptr.slot c.place-place.result c.args.content.now c.requires.plain (rw c.place-place.ensures c.requires.live) c.size_at-size.result c.size_of.result c.free_next-next.result c.size_at-size.ensures c.free_next-next.ensures c.size_of.ensures in
    omega (arith, few)
