-- No more is held than there can be, so the count fits.
use Rattle.std.proofs.Common.{◌<◌, ◌^◌, arith, rules}
use Rattle.mtrace_replay.proofs.Index.HoldingLemmas.{held_within}
use Rattle.mtrace_replay.proofs.heap.index.Index.len.Goals as goal

pub returns : goal.returns
returns c =
    let kept = c.self.invariant in
    let small : c.self.inside.blocks < 2 ^ 63 = omega (arith, kept.blocks_are, held_within c.self.inside.keys.rows c.self.inside.keys.keys, kept.within, kept.few) in
    record { len = search rules; small = small }
