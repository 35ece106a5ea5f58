-- A full table has no record for one more block.
use Rattle.std.proofs.Common.{◌≡◌, Err}
use Rattle.std.proofs.lemmas.Result.{IfErr-at_err}
use Rattle.tlsf_heap.specs.Inner.Following.{content_of}
use Rattle.tlsf_heap.specs.Pools.{add_pool}
use Rattle.tlsf_heap.proofs.Inner.Standing.{content_is_good}
use Rattle.tlsf_heap.proofs.Good.Implied.{add_pool_full}
use Rattle.tlsf_heap.proofs.heap.Heap.add_pool.Goals as goal

pub returns-clause-table_full : goal.returns-clause-table_full
returns-clause-table_full c = λ is.
    let refused = IfErr-at_err (λ why. add_pool c.args.base c.args.bytes (content_of c.self.inside.store.cells) ≡ Err why) is c.add_pool.ensures.refused in
    rw (← c.self.view_is) (add_pool_full c.args.base c.args.bytes (content_of c.self.inside.store.cells) (content_is_good c.self.inside.store.cells c.self.invariant) refused)
