-- The index's invariant has the order.
use Rattle.std.proofs.Common.{subst}
use Rattle.mtrace_replay.specs.Index.{AreInOrder}
use Rattle.mtrace_replay.proofs.Index.IndexLemmas.{index_in_order}
use Rattle.mtrace_replay.proofs.heap.index.Index.keeps_order.Goals as goal

pub returns : goal.returns
returns c = subst (λ index. AreInOrder index.all) c.self.view_is (index_in_order c.self.inside.keys.rows c.self.inside.keys.keys c.self.invariant.rise)
