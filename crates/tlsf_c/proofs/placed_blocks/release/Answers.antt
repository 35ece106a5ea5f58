-- What a served free leaves of blocks and ranges.
use Rattle.std.proofs.Common.{◌≡◌, subst}
use Rattle.std.specs.Prelude.{◌==◌, IfOk}
use Rattle.tlsf_region.proofs.Ranges.{free_ranges, ranges}
use Rattle.tlsf_c.proofs.LiveChanges.{freed_change}
use Rattle.tlsf_c.proofs.ResizedBlock.{live_units}
use Rattle.tlsf_c.proofs.placed_blocks.release.Goals as goal

pub returns-clause-long : goal.returns-clause-long
returns-clause-long c = λ served. (live_units c.args.ptr c.args.size c.args.heap.now.content c.keeps_good.ensures.good (c.free_sized-freed.ensures.found.0 served)).long

pub returns-clause-ranges : goal.returns-clause-ranges
returns-clause-ranges c = λ served.
    let old = c.args.heap.now.content in
    subst (λ given. IfOk given (λ new. ranges new ≡ ranges old)) (c.free_sized-freed.ensures.freed served) (free_ranges (λ slot. slot == c.args.ptr.slot) c.args.ptr.place old)

pub returns-clause-live : goal.returns-clause-live
returns-clause-live c = λ served.
    let old = c.args.heap.now.content in let new = c.free_sized-freed.new.self.content in
    freed_change c.args.ptr c.args.size old new c.keeps_good.ensures.good c.keeps_good-2.ensures.good (c.free_sized-freed.ensures.found.0 served) (c.free_sized-freed.ensures.freed served)
