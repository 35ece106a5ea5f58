use Rattle.std.proofs.Common.{◌≡◌, ◌-◌, ◌++◌}
use Rattle.mtrace_replay.specs.SpanRows.{blank_row}
use Rattle.mtrace_replay.proofs.parts.span_rows.push_row.Given as goal

-- the spans to the ranges so far are there
abbrev pub invariant-loop-last : goal.invariant-loop-last
invariant-loop-last l = l.spans.items ≡ l.fn.spans.items ++ blank_row (l.last - l.fn.first) l.fn.first l.fn.first
