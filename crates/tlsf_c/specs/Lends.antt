-- What a loan of the heap of a handle leaves in the handle.
use base.Fml.{Fml}
use denote.Ref.{MutBor}
use denote.Follow.{follows}
use Rattle.tlsf_heap.specs.Counted.{Counted}
use Rattle.tlsf_heap.specs.contracts.heap.Heap.{the_row as heap_row}
use Rattle.tlsf_c.specs.declared.handle.Handle.{Handle}
use Rattle.tlsf_c.specs.contracts.handle.Handle.{the_row as handle_row}

-- the handle of another heap in the same place
abbrev pub with_heap : Handle → Counted → Handle
with_heap handle heap = record { at = handle.at; value = heap }

-- once the loan ends, the heap of the handle is what was last written through it
abbrev pub LendsHeap : MutBor Handle → MutBor Counted → Fml
LendsHeap handle loan = follows handle_row heap_row handle.ghost_name loan.ghost_name (with_heap handle.now)
