-- Where all keys on both sides are held there is the end.
use Rattle.std.proofs.Common.{arith}
use Rattle.mtrace_replay.proofs.Index.HoldingLemmas.{all_are_held}
use Rattle.mtrace_replay.proofs.heap.search.nearest_gap.Goals as goal

pub unreachable-requires : goal.unreachable-requires
unreachable-requires c =
    let around = c.loop-distance.invariant in
    let far = c.loop-distance-test.false in
    let most = c.requires.at_most in
    let end = c.len-end.ensures.len in
    let all = all_are_held c.args.keys.now.rows c.args.keys.now.keys (λ k within default. around.held k (omega (arith, end, far, most, within)) (omega (arith, end, far, within)) within default) in
    let full = around.full (omega (arith, end, far, most)) in
    omega (arith, all, full, c.requires.free)
