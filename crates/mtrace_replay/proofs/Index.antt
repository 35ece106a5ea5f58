-- What is held, by address: keys in order, and their rows.
pub mod ArrangeLemmas
pub mod Flat
pub mod GapLemmas
pub mod HeldChanges
pub mod HoldingLemmas
pub mod IndexLemmas
pub mod KeyLemmas
pub mod KeysLemmas
pub mod LookLemmas
pub mod MappedLemmas
pub mod SearchLemmas
