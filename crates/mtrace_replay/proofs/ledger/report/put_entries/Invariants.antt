use Rattle.std.proofs.Common.{drop, flat_map}
use Rattle.mtrace_log.proofs.Writing.{IsPutting}
use Rattle.mtrace_replay.specs.Texts.{entry_text}
use Rattle.mtrace_replay.proofs.ledger.report.put_entries.Given as goal

-- the lines so far are put, and those of the rest are left
abbrev pub invariant-loop-address : goal.invariant-loop-address
invariant-loop-address g l = IsPutting (flat_map entry_text l.ledger.all) (flat_map entry_text (drop l.address-index l.ledger.all)) (g.W.Sink.shown l.initial.writer) (g.W.Sink.shown l.writer)
