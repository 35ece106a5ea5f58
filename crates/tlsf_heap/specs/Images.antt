-- Images: what stands where, the links of its records, and the rules.
pub mod Image
pub mod Links
pub mod Rules
pub mod Writing
pub mod Findings
pub mod Bitmaps
pub mod Described
