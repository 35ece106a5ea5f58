-- What a C program owns with a handle: the heap where it stands, and the right to free its memory.
use Rattle.std.specs.Prelude.{Option, Some, None}
use mir.Syntax.{Ty}
use base.Fml.{Fml, feq}
use denote.RawPtr.{Ptr, null_ptr}
use Rattle.std_alloc.specs.Box.Ownership.{box_owns}
use Rattle.std_heap.specs.contracts.GlobalAllocator.TheImpl.{ghosts}
use Rattle.tlsf_heap.specs.Counted.{Counted}
use Rattle.tlsf_heap.specs.contracts.heap.Heap.{the_row}

-- the right to free the block at a pointer, which came from std's allocator
abbrev pub token : Ty → Ptr → Fml
token ty p = ghosts.dealloc_token (record { memory = record { seal = tt } }) ty p

-- the heap at the pointer
abbrev pub owned_heap : Ptr → Counted → Fml
owned_heap at heap = box_owns (λ ty p. token ty p) the_row at heap

-- the heap at the pointer, or none: then the pointer is null
abbrev pub owned : Ptr → Option Counted → Fml
owned at None = feq Ptr at null_ptr
owned at (Some heap) = owned_heap at heap
