use Rattle.std.proofs.Common.{◌≡◌, drop}
use Rattle.tlsf_heap.specs.Free.{previous_of}
use Rattle.tlsf_heap.proofs.plain_heap.pool.Pool.previous_of.Given as goal

-- the blocks so far have none
abbrev pub invariant-loop-number : goal.invariant-loop-number
invariant-loop-number l = previous_of l.place (drop l.number l.self.blocks) ≡ previous_of l.place l.self.blocks
