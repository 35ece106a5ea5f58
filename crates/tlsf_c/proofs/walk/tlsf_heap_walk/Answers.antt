-- No more rows are put than there is room for.
use Rattle.std.proofs.Common.{ap, arith}
use Rattle.tlsf_c.proofs.FewRows.{length_of, rows_few}
use Rattle.tlsf_c.proofs.walk.tlsf_heap_walk.Goals as goal

pub fill-requires-clause-few : goal.fill-requires-clause-few
fill-requires-clause-few c = omega (arith, ap length_of c.in-Ok.ensures.found.ok, rows_few c.args.base 0 (c.heap-heap.result.now).content.pools c.keeps_good.ensures.good.pools_good)
