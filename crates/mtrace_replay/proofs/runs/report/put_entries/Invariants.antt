use Rattle.std.proofs.Common.{flat_map}
use Rattle.mtrace_log.proofs.Writing.{IsPutting}
use Rattle.mtrace_replay.specs.Texts.{entry_text}
use Rattle.mtrace_replay.proofs.runs.report.put_entries.Given as goal

-- the lines so far are put, and those of the rest are left
abbrev pub invariant-loop-entry : goal.invariant-loop-entry
invariant-loop-entry g l = IsPutting (flat_map entry_text l.fn.held) (flat_map entry_text l.entry-iterator) (g.W.Sink.shown l.initial.writer) (g.W.Sink.shown l.writer)
