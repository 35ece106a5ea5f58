use Rattle.std.proofs.Common.{◌≡◌, ◌+◌, ◌-◌, ◌↔◌}
use Rattle.tlsf_store.specs.Table.{next_at, IsVacantAt}
use Rattle.tlsf_store.specs.Table.{IsChain}
use Rattle.tlsf_store.proofs.vacant_chain.is_chain.Given as goal

-- what is left to follow is a chain exactly where all of it is
abbrev pub invariant-loop-followed : goal.invariant-loop-followed
invariant-loop-followed l =
    record {
      chained : IsChain (IsVacantAt l.records) (next_at l.records) (l.vacant - l._followed) l.next ↔ IsChain (IsVacantAt l.records) (next_at l.records) l.vacant l.fn.first;
      touched : l.touches.count ≡ l.fn.touches.count + l._followed;
    }
