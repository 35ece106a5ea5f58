pub mod ClassLaws
pub mod Extremes
pub mod LowestSizes
pub mod RoundingLaws
mod Shifts
mod Vectors
