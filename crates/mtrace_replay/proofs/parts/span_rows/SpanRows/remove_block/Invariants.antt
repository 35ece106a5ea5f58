use Rattle.std.proofs.Common.{Some}
use Rattle.mtrace_replay.specs.Span.{released}
use Rattle.mtrace_replay.proofs.BySize.SpanRowLemmas.{HasChanged}
use Rattle.mtrace_replay.proofs.parts.span_rows.SpanRows.remove_block.Given as goal

-- the rows so far have changed
abbrev pub invariant-loop-first : goal.invariant-loop-first
invariant-loop-first l = HasChanged (released (Some l.fn.range)) l.first l.row l.fn.self l.self-inside.all.items
