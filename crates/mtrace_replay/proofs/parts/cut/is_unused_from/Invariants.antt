use Rattle.std.proofs.Common.{◌≡◌, ℕ, ◌<◌, slice_index_or}
use Rattle.mtrace_replay.specs.declared.parts.span.Span.{Span}
use Rattle.mtrace_replay.proofs.parts.cut.is_unused_from.Given as goal

-- no request falls under the spans so far
abbrev pub invariant-loop-span : goal.invariant-loop-span
invariant-loop-span l = (k : ℕ) (d : Span) → k < l.span-index → (slice_index_or l.spans k d).first ≡ l.first → (slice_index_or l.spans k d).size ≡ 0
