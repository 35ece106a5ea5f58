use Rattle.std.proofs.Common.{◌≡◌}
use Rattle.tlsf_heap.specs.Images.Image.{two_at, pools_at}
use Rattle.tlsf_heap.specs.Images.Rules.{has_pools}
use Rattle.tlsf_heap.proofs.Images.PoolLemmas.{are_pools_from}
use Rattle.tlsf_heap.proofs.image.header.has_pools.Given as goal

-- all pools pass exactly if those that are left do
abbrev pub invariant-loop-number : goal.invariant-loop-number
invariant-loop-number l = are_pools_from l.fn.bytes l.from l.number (two_at pools_at l.fn.bytes) ≡ has_pools l.fn.bytes
