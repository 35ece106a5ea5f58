use Rattle.std.proofs.Common.{◌≡◌, drop}
use Rattle.tlsf_heap.specs.Free.{next_of}
use Rattle.tlsf_heap.proofs.plain_heap.pool.Pool.next_of.Given as goal

-- the blocks so far have none
abbrev pub invariant-loop-number : goal.invariant-loop-number
invariant-loop-number l = next_of l.place (drop l.number l.self.blocks) ≡ next_of l.place l.self.blocks
