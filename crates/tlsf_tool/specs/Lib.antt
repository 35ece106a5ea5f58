pub mod Asks
pub mod Checking
pub mod CommandLine
pub mod Faults
pub mod Files
pub mod Plan
pub mod Progress
pub mod Statuses
