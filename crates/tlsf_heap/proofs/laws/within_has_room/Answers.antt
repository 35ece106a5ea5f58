-- Were there no room, the free blocks would be too many for the pool.
use Rattle.std.proofs.Common.{arith}
use Rattle.tlsf_heap.specs.Memalign.{size_asked}
use Rattle.tlsf_heap.proofs.Good.Within.{room_within}
use Rattle.tlsf_heap.proofs.laws.within_has_room.Goals as goal

pub returns-clause-plain : goal.returns-clause-plain
returns-clause-plain c = λ blocks bytes size n content enough within. room_within blocks bytes size (λ m. m) 1 n content (omega arith) enough within

pub returns-clause-aligned : goal.returns-clause-aligned
returns-clause-aligned c = λ blocks bytes size align n content enough within. room_within blocks bytes size (size_asked align) 2 n content (omega arith) enough within
