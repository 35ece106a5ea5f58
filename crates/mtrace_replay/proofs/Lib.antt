-- Lemmas that several proofs share, by subject.
pub mod History
pub mod Told
pub mod Index
pub mod OnHeap
pub mod Running
pub mod OnLedger
pub mod BySize
pub mod Enough
