use Rattle.mtrace_replay.specs.Span.{with_block}
use Rattle.mtrace_replay.proofs.BySize.SpanRowLemmas.{HasChanged}
use Rattle.mtrace_replay.proofs.parts.span_rows.SpanRows.add_block.Given as goal

-- the rows so far have changed
abbrev pub invariant-loop-first : goal.invariant-loop-first
invariant-loop-first l = HasChanged (with_block l.fn.range l.fn.size) l.first l.row l.fn.self l.self-inside.all.items
