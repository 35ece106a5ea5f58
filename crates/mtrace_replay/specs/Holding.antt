-- What an address is held under.
use Rattle.tlsf_heap.specs.Pointer.{Pointer}
use Rattle.mtrace_replay.specs.Entry.{Entry}

-- its entry, and the block that the heap gave for it
pub record Holding : Type 0 where
  pub entry : Entry
  pub ptr : Pointer
