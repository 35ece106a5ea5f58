use Rattle.std.proofs.Common.{drop, flat_map}
use Rattle.mtrace_log.proofs.Writing.{IsPutting}
use Rattle.mtrace_replay.proofs.held.lines.put_lines.Given as goal

-- the lines so far are put, and those of the rest are left
abbrev pub invariant-loop-item : goal.invariant-loop-item
invariant-loop-item g l = IsPutting (flat_map g.T.InLine.line l.items) (flat_map g.T.InLine.line (drop l.item-index l.items)) (g.W.Sink.shown l.initial.writer) (g.W.Sink.shown l.writer)
