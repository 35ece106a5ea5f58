-- The definitions that the contracts cite.
pub mod Region
pub mod Bytes
pub mod Lends
