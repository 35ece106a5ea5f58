-- One pool more in each turn, up to those of the settings.
use Rattle.std.proofs.Common.{◌≡◌, ◌*◌, ap, ◌∙◌, refl, arith}
use Rattle.tlsf_heap.specs.Bare.{bare}
use Rattle.tlsf_heap.specs.Pools.{add_pool}
use Rattle.mtrace_replay.specs.Started.{started, with_pools, left_by}
use Rattle.mtrace_replay.proofs.OnHeap.StartSteps.{with_pools-next}
use Rattle.mtrace_replay.proofs.heap.start.add_pools.Goals as goal

pub loop-left-init : goal.loop-left-init
loop-left-init g c = refl

pub loop-left-preserved : goal.loop-left-preserved
loop-left-preserved g c =
    let settings = c.args.settings in
    let old = bare (g.H.Heaped.content c.loop-left.heap) in
    with_pools-next settings c.loop-left.left old (bare (g.H.Heaped.content c.add_pool.new.heap)) c.loop-left-test.true
    (c.in_ok-add_pool.ensures.left ∙ ap (λ n. left_by old (add_pool (n * settings.pool) settings.pool old)) c.from.ensures)
    ∙ c.loop-left.invariant

pub returns-clause-started : goal.returns-clause-started
unfolding started
returns-clause-started g c =
    let none : 0 ≡ c.loop-left.left = omega (arith, c.loop-left-test.false) in
    ap (λ n. with_pools c.args.settings n (bare (g.H.Heaped.content c.loop-left.heap))) none ∙ c.loop-left.invariant
    ∙ ap (with_pools c.args.settings c.args.settings.pools) c.requires.empty
