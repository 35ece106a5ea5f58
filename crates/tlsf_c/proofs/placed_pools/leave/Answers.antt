-- A pool less leaves the live blocks, and loses its range.
use Rattle.tlsf_c.proofs.LiveChanges.{removed_change}
use Rattle.std.proofs.lemmas.Result.{IfOk-weaker}
use Rattle.tlsf_c.proofs.RangesMoved.{removed_ranges}
use Rattle.tlsf_c.proofs.placed_pools.leave.Goals as goal

pub returns-clause-ranges : goal.returns-clause-ranges
returns-clause-ranges c =
    IfOk-weaker c.remove_pool-removed.result _ _ (λ done removed. removed_ranges c.args.place c.args.heap.now.content c.remove_pool-removed.new.self.content removed) c.remove_pool-removed.ensures.ok

pub returns-clause-live : goal.returns-clause-live
returns-clause-live c =
    IfOk-weaker c.remove_pool-removed.result _ _ (λ done removed. removed_change c.args.place c.args.heap.now.content c.remove_pool-removed.new.self.content c.keeps_good.ensures.good c.keeps_good-2.ensures.good removed) c.remove_pool-removed.ensures.ok
