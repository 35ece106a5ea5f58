-- Lemmas that several proofs share.
pub mod Counts
pub mod Inserted
pub mod Content
pub mod Good
pub mod Bits
pub mod Inner
pub mod Meaning
pub mod Plain
pub mod Images
pub mod RunSteps
mod Rows
