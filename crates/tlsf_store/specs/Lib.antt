pub mod Cells
pub mod CountedCells
pub mod Packed
pub mod Records
pub mod Table
pub mod Ranges
pub mod Slots
pub mod Words
