use Rattle.std.proofs.Common.{◌≡◌, ◌-◌}
use Rattle.mtrace_replay.specs.Span.{one_less}
use Rattle.mtrace_replay.proofs.Index.MappedLemmas.{mapped_behind}
use Rattle.mtrace_replay.proofs.parts.span_rows.remove_between.Given as goal

-- those so far have changed
abbrev pub invariant-loop-at : goal.invariant-loop-at
invariant-loop-at l = l.spans ≡ mapped_behind one_less l.fn.from (l.at - l.fn.from) l.fn.spans
