use Rattle.std.proofs.Common.{◌≡◌, ◌-◌, ◌++◌}
use Rattle.mtrace_replay.specs.SpanRows.{blank_rows}
use Rattle.mtrace_replay.proofs.parts.span_rows.SpanRows.new.Given as goal

-- with the rows that are left all are there
abbrev pub invariant-loop-first : goal.invariant-loop-first
invariant-loop-first l = l.all.items ++ blank_rows (27 - l.first) l.first ≡ blank_rows 27 0
