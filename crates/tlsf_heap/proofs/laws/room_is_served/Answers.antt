-- What room says of the lists is what the definitions ask for.
use Rattle.std.proofs.Common.{◌==◌}
use Rattle.tlsf_heap.specs.Pointer.{place_and_slot}
use Rattle.tlsf_heap.proofs.Good.Room.{room_serves, aligned_room_serves, realloc_room_serves}
use Rattle.tlsf_heap.proofs.laws.room_is_served.Goals as goal

pub returns-clause-malloc : goal.returns-clause-malloc
returns-clause-malloc c = room_serves

pub returns-clause-memalign : goal.returns-clause-memalign
returns-clause-memalign c = aligned_room_serves

pub returns-clause-realloc : goal.returns-clause-realloc
returns-clause-realloc c = λ slot n ptr. realloc_room_serves slot (λ a b. a == b) (place_and_slot ptr) n
