-- Lemmas on the words of the bitmaps.
pub mod Edits
pub mod LastHead
pub mod Search
