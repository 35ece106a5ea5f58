-- A live block ends within the bytes.
use Rattle.tlsf_region.proofs.region.Region.live_size.Goals as goal
use Rattle.tlsf_region.proofs.Sizes.{size_found}

pub returns-clause-some : goal.returns-clause-some
returns-clause-some c =
    rw (← c.self.view_is) (size_found c.block_size.result c.args.ptr c.self.inside.heap.content c.self.inside.bytes.items c.keeps_good.ensures.good c.self.invariant.0 c.block_size.ensures.ok c.ok.result c.ok.ensures.value)
