-- A pool more leaves the live blocks, and has its range.
use Rattle.tlsf_c.proofs.LiveChanges.{added_change}
use Rattle.std.proofs.lemmas.Result.{IfOk-weaker}
use Rattle.tlsf_c.proofs.RangesMoved.{added_ranges}
use Rattle.tlsf_c.proofs.placed_pools.enter.Goals as goal

pub returns-clause-ranges : goal.returns-clause-ranges
returns-clause-ranges c =
    IfOk-weaker c.add_pool-added.result _ _ (λ done added. added_ranges c.args.place c.args.bytes c.args.heap.now.content c.add_pool-added.new.self.content c.keeps_good.ensures.good added) c.add_pool-added.ensures.ok

pub returns-clause-live : goal.returns-clause-live
returns-clause-live c =
    IfOk-weaker c.add_pool-added.result _ _ (λ done added. added_change c.args.place c.args.bytes c.args.heap.now.content c.add_pool-added.new.self.content c.keeps_good.ensures.good c.keeps_good-2.ensures.good added) c.add_pool-added.ensures.ok
