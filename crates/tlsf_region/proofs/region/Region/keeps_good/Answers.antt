-- A live block has as many bytes as its size, within the region.
use Rattle.tlsf_region.proofs.Sizes.{live_bytes_long}
use Rattle.tlsf_region.proofs.region.Region.keeps_good.Goals as goal

pub returns-clause-as_many : goal.returns-clause-as_many
returns-clause-as_many c = rw (← c.self.view_is) (λ ptr. live_bytes_long ptr c.self.inside.heap.content c.self.inside.bytes.items c.keeps_good.ensures.good c.self.invariant.0)
