-- No range so far is the one that is sought.
use Rattle.std.proofs.Common.{◌≡◌}
use Rattle.std.specs.List.{AllWithin}
use Rattle.tlsf_c.proofs.placed_loading.has_range.Given as goal

abbrev pub invariant-loop-range : goal.invariant-loop-range
invariant-loop-range l = (l.ranges ≡ l.fn.ranges) × (l.place ≡ l.fn.place) × (l.bytes ≡ l.fn.bytes) × AllWithin (λ range. range ≡ (l.fn.place, l.fn.bytes) → ⊥) l.ranges 0 l.range-index
