use Rattle.std.proofs.Common.{length}
use Rattle.mtrace_log.proofs.Writing.{IsPutting}
use Rattle.mtrace_log.proofs.output.put_all.Given as goal

-- a beginning is put, and the rest is left
abbrev pub invariant-loop-rest : goal.invariant-loop-rest
invariant-loop-rest g l = IsPutting l.bytes l.rest (g.W.Sink.shown l.initial.writer) (g.W.Sink.shown l.writer)

abbrev pub decreases-loop-rest : goal.decreases-loop-rest
decreases-loop-rest g l = length l.rest
