-- Lemmas that several proofs share.
pub mod TextLemmas
pub mod HexLemmas
pub mod SixteenLemmas
pub mod FieldLemmas
pub mod FrontLemmas
pub mod LocationLemmas
pub mod FormLemmas
pub mod EventLemmas
pub mod SpellingLemmas
pub mod FrequentLemmas
pub mod TraceLemmas
pub mod Writing
pub mod LineLemmas
pub mod PieceLemmas
pub mod ReadLemmas
pub mod CallLemmas
pub mod FilledLemmas
mod Vectors
