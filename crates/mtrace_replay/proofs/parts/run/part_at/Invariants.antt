use Rattle.std.proofs.Common.{◌≡◌, ℕ, ◌<◌, slice_index_or}
use Rattle.mtrace_replay.specs.declared.parts.span.Span.{Span}
use Rattle.mtrace_replay.proofs.parts.run.part_at.Given as goal

-- no span so far has these ranges
abbrev pub invariant-loop-span : goal.invariant-loop-span
invariant-loop-span l = (k : ℕ) (d : Span) → k < l.span-index → (slice_index_or l.spans k d).first ≡ l.first → (slice_index_or l.spans k d).last ≡ l.last → ⊥
