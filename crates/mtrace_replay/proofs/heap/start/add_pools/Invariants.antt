use Rattle.std.proofs.Common.{◌≡◌}
use Rattle.tlsf_heap.specs.Bare.{bare}
use Rattle.mtrace_replay.specs.Started.{with_pools}
use Rattle.mtrace_replay.proofs.heap.start.add_pools.Given as goal

-- the pools left to add make the heap whole
abbrev pub invariant-loop-left : goal.invariant-loop-left
invariant-loop-left g l =
    with_pools l.settings l.left (bare (g.H.Heaped.content l.heap)) ≡ with_pools l.settings l.settings.pools (bare (g.H.Heaped.content l.initial.heap))

abbrev pub decreases-loop-left : goal.decreases-loop-left
decreases-loop-left g l = l.left
