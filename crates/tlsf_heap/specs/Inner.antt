-- What the linked records of a heap stand for.
pub mod Nodes
pub mod Positions
pub mod Represents
pub mod Following
pub mod At
pub mod Edits
pub mod Entries
pub mod Loading
pub mod Spans
pub mod Answers
