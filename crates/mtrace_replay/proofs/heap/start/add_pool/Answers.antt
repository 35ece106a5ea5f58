-- A heap's answer, seen without slots.
use Rattle.std.proofs.Common.{rules}
use Rattle.mtrace_replay.proofs.OnHeap.HeapSteps.{bare_added, bare_not_added}
use Rattle.mtrace_replay.proofs.heap.start.add_pool.Goals as goal

pub returns-in-Ok-clause-left : goal.returns-in-Ok-clause-left
returns-in-Ok-clause-left g c = bare_added (g.H.Heaped.content c.args.heap.now) (g.H.Heaped.content c.add_pool.new.self) c.args.base c.args.bytes c.in-Ok.ensures.ok

pub returns-in-Err-clause-left : goal.returns-in-Err-clause-left
returns-in-Err-clause-left g c = let h = c.in-Err in bare_not_added (g.H.Heaped.content c.args.heap.now) (g.H.Heaped.content c.add_pool.new.self) c.args.base c.args.bytes c.in-Err.field-0 (c.in-Err.ensures.refused.refused (search rules)) c.in-Err.ensures.refused.unchanged.content
