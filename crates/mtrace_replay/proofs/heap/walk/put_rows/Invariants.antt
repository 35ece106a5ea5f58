use Rattle.std.proofs.Common.{◌≡◌, flat_map, length}
use Rattle.mtrace_log.proofs.Writing.{IsPutting}
use Rattle.mtrace_replay.specs.Texts.{row_text}
use Rattle.mtrace_replay.proofs.heap.walk.put_rows.Given as goal

-- the lines so far are put, and those of the rows from here on are left
abbrev pub invariant-loop-next : goal.invariant-loop-next
invariant-loop-next g l = record {
  stands : g.H.Heaped.stands l.heap l.here;
  put : IsPutting (flat_map row_text (g.H.Heaped.rest l.initial.heap l.fn.cursor)) (flat_map row_text (g.H.Heaped.rest l.heap l.here)) (g.W.Sink.shown l.initial.writer) (g.W.Sink.shown l.writer);
  same : g.H.Heaped.content l.heap ≡ g.H.Heaped.content l.initial.heap;
}

-- how many rows are left
abbrev pub decreases-loop-next : goal.decreases-loop-next
decreases-loop-next g l = length (g.H.Heaped.rest l.heap l.here)
