-- What a line leaves of a heap, and of what is held there.
pub mod AskedBlock
pub mod HeapSteps
pub mod HeldFew
pub mod HeldLive
pub mod HeldStayLive
pub mod RowLemmas
pub mod FreeAndRealloc
pub mod SlotLemmas
pub mod OneLineMore
pub mod StartLemmas
pub mod StartSteps
pub mod StepLemmas
pub mod LiveBefore
