-- Half of the keys are left out, and the address isn't among them.
use Rattle.std.proofs.Common.{sym}
use Rattle.mtrace_replay.proofs.Index.SearchLemmas.{goes}
use Rattle.mtrace_replay.proofs.heap.search.search.Goals as goal

pub loop-left-preserved : goal.loop-left-preserved
loop-left-preserved c =
    let told = c.compare-standing.ensures in
    goes c.args.keys.now.keys c.args.address c.args.comparisons.now.count c.loop-left.low c.loop-left.left c.loop-left.comparisons.count c.loop-left.is_seen c.requires c.loop-left.invariant c.loop-left-test.true
    c.key.result (sym (c.key.ensures c.key.result)) c.compare-standing.new.comparisons.count told.counted
    c.compare-standing.result.reaches c.so_many_if-low.result c.compare-standing.result.is_same c.so_many_if-low.ensures told.one_or_none told.reaches told.above told.same
