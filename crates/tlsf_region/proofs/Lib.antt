-- Lemmas that several proofs share.
pub mod Ranges
pub mod Ends
pub mod Sizes
pub mod Room
pub mod Loans
