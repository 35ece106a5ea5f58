pub mod Classes
pub mod Rounding
pub mod Mapping
